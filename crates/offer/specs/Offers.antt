-- Offer and acceptance (document 02, request 8). What a row makes of a station, and what is refused of both, is crate station's and crate state's.
use Rattle.std.specs.Prelude.{ℕ, ◌≡◌, Bool, ◌&&◌, not, List, [], ◌∷◌, eqb, length, if◌then◌else◌}
use Rattle.refusal.specs.declared.cause.Cause.{Cause}
use Rattle.std.specs.declared.result.Result.{Result}
use Rattle.std.specs.declared.result.Result.TheVariants.{Ok, Err}
use Rattle.line.specs.Ballot.{silence}
use Rattle.refusal.specs.Cause.{number, code, given, refused_if, ◌or_else◌, answered, values}
use Rattle.refusal.specs.declared.cause.Cause.TheVariants as cause
use Rattle.refusal.specs.Cause.{Verdict}
use Rattle.broadcast.specs.Station.{ballot, advance, at}
use Rattle.state.specs.declared.Station.{Station}
use Rattle.state.specs.Judgement.{is_done, taking_verdict}
use Rattle.station.specs.Automaton.{setup_of, state_of, in_state}
use Rattle.station.specs.Answers.{bytes_of, ballot_answer}
use Rattle.offer.specs.declared.Offer.{Offer}

-- ---- what an offer is: "the following state and its ballot (255 if that state is done)"

-- the station after the row, as taking it has it
unfoldable pub following : Station → List ℕ → Station
following s row = in_state s (advance (setup_of s) (state_of s) (at row))

-- what a station tells in the state that it is in
unfoldable pub next_ballot : Station → ℕ
next_ballot s = if is_done s.t s.round then silence else ballot (setup_of s) (state_of s)

-- its state, with a ballot
unfoldable pub with_ballot : Station → ℕ → Offer
with_ballot next b = record {
  round = next.round;
  value = next.value;
  z = next.z;
  grade = next.grade;
  garbled = next.garbled;
  ballot = b;
}

abbrev pub offer_of : Station → Offer
offer_of next = with_ballot next (next_ballot next)

-- the one that a station and a row give
abbrev pub offer_for : Station → List ℕ → Offer
offer_for s row = offer_of (following s row)

-- an offer's six bytes
abbrev pub offer_bytes : Offer → List ℕ
offer_bytes o = o.round ∷ o.value ∷ o.z ∷ o.grade ∷ o.garbled ∷ o.ballot ∷ []

-- ---- "an offer, which gives the following state and its ballot [..] and leaves the station alone": refused as the row is

-- what `show` answers
abbrev pub show_answer : Station → List ℕ → Result Offer Cause
show_answer s row = answered (taking_verdict s (length row)) (offer_for s row)

pub record Shows (s : Station) (row : List ℕ) (r : Result Offer Cause) : Type 0 where
  pub answer : r ≡ show_answer s row
  pub number_is : code r ≡ code (taking_verdict s (length row))
  pub values_are : values offer_bytes r ≡ given (taking_verdict s (length row)) (offer_bytes (offer_for s row))

-- ---- "and an acceptance with the same row"

-- all six bytes are compared
unfoldable pub same : Offer → Offer → Bool
same a b =
    eqb a.round b.round && (eqb a.value b.value && (eqb a.z b.z
    && (eqb a.grade b.grade && (eqb a.garbled b.garbled && eqb a.ballot b.ballot))))

-- "An acceptance whose offer, whatever it holds, is not the one this station and row give is refused by 17, after the causes of the station and the row only"
unfoldable pub comparing_verdict : Offer → Offer → Verdict
comparing_verdict o right = refused_if (not (same o right)) cause.Offer

unfoldable pub accepting_verdict : Station → List ℕ → Offer → Verdict
accepting_verdict s row o = taking_verdict s (length row) or_else comparing_verdict o (offer_for s row)

-- what `accept` answers
abbrev pub accept_answer : Station → List ℕ → Offer → Result Station Cause
accept_answer s row o = answered (accepting_verdict s row o) (following s row)

pub record Accepts (s : Station) (row : List ℕ) (o : Offer) (r : Result Station Cause) : Type 0 where
  pub answer : r ≡ accept_answer s row o
  pub number_is : code r ≡ code (accepting_verdict s row o)
  pub values_are : values bytes_of r ≡ given (accepting_verdict s row o) (bytes_of (following s row))

-- ---- for private functions: the offer by what `station::ballot` answers, which of a station that follows is the one above

abbrev pub told_byte : Result ℕ Cause → ℕ
told_byte (Ok b) = b
told_byte (Err c) = silence

abbrev pub offer_told : Station → Offer
offer_told next = with_ballot next (told_byte (ballot_answer next))
