-- Offer and acceptance as numbers, and what the two calls promise. What is answered is what the calls by value answer (crates/offer/specs/Offers.antt); a station and its state are
-- the numbers that they are in crate controller.
use Rattle.std.specs.Prelude.{ℕ, ◌≡◌, List}
use Rattle.offer.specs.declared.Offer.{Offer}
use Rattle.refusal.specs.declared.cause.Cause.{Cause}
use Rattle.std.specs.declared.result.Result.{Result}
use Rattle.std.specs.declared.result.Result.TheVariants.{Ok, Err}
use Rattle.refusal.specs.Cause.{answer_word, code}
use Rattle.offer.specs.Offers.{show_answer, accept_answer}
use Rattle.offer.specs.Words.{offer_word, offer_in}
use Rattle.controller.specs.Words.{station_of, advanced_word}

-- the offer; none where it is refused
abbrev pub shown_word : Result Offer Cause → ℕ
shown_word (Ok o) = offer_word o
shown_word (Err c) = 0

-- `vembopu_offer`: what `offer::show` answers
pub record OfferAnswer (n t T sender own state : ℕ) (row : List ℕ) (r : ℕ) : Type 0 where
  pub answer : let o = show_answer (station_of n t T sender own state) row in r ≡ answer_word (code o) (shown_word o)

-- `vembopu_accept`: what `offer::accept` answers of the offer that the number is; the next state, or that of the station handed in, since 17 leaves it as it was too
pub record AcceptAnswer (n t T sender own state : ℕ) (row : List ℕ) (offer r : ℕ) : Type 0 where
  pub answer : let s = station_of n t T sender own state in
      let o = accept_answer s row (offer_in offer) in
      r ≡ answer_word (code o) (advanced_word s o)
