-- The statements of specs/Theorems.antt, each by the law that proves it.
use Rattle.offer.specs.Theorems.{AcceptingIsTaking, TogetherAsOne, AfterAnyCuts, ShownBallot, ShownAhead, WordComparedWhole}
use Rattle.offer.proofs.OfferLaws.{next_sound}
use Rattle.offer.proofs.TogetherLaws.{right_offer, together, after_cuts}
use Rattle.offer.proofs.BallotLaws.{shows_ballot, shown_bytes, ahead}
use Rattle.offer.proofs.WordLaws.{read_exactly}

pub accepting_is_taking : AcceptingIsTaking
accepting_is_taking = right_offer

pub together_as_one : TogetherAsOne
together_as_one = together

pub after_any_cuts : AfterAnyCuts
after_any_cuts = after_cuts

pub shown_ballot : ShownBallot
shown_ballot s row next e = shows_ballot next (next_sound s row e)

pub shown_ahead : ShownAhead
shown_ahead = ahead

pub word_compared_whole : WordComparedWhole
word_compared_whole s row o e = read_exactly o (shown_bytes s row o e)
