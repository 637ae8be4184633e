-- What is shown of offer and acceptance, said of what the calls answer. Each statement has a name here, and proofs/Theorems.antt has the law that proves it.
use Rattle.std.specs.Prelude.{ℕ, ◌+◌, ◌<◌, ◌≡◌, ◌↔◌, ◌≢◌, List, [], ◌∷◌}
use Rattle.std.specs.declared.result.Result.{Result}
use Rattle.std.specs.declared.result.Result.TheVariants.{Ok, Err}
use Rattle.line.specs.Line.{rounds, place}
use Rattle.refusal.specs.declared.cause.Cause.{Cause}
use Rattle.refusal.specs.declared.cause.Cause.TheVariants as cause
use Rattle.broadcast.specs.Station.{at}
use Rattle.broadcast.specs.Bytes.{column}
use Rattle.state.specs.declared.Station.{Station}
use Rattle.station.specs.declared.StationResult.TheVariants as station_result
use Rattle.station.specs.Answers.{ballot_answer, advance_answer, result_answer}
use Rattle.station.specs.Singly.{Singly}
use Rattle.offer.specs.declared.Offer.{Offer}
use Rattle.offer.specs.Offers.{offer_of, offer_for, show_answer, accept_answer}
use Rattle.offer.specs.Words.{offer_word, offer_in}

-- ---- "Offer and acceptance together do what taking the row did."

-- for all stations and rows, refusals included: no hypothesis
abbrev pub AcceptingIsTaking : Type 0
AcceptingIsTaking = (s : Station) (row : List ℕ) → accept_answer s row (offer_for s row) ≡ advance_answer s row

-- the three calls on one station and row
pub record Together (s : Station) (row : List ℕ) : Type 0 where
  -- where the row would be taken, the offer shows the station after it
  pub shows : (next : Station) → advance_answer s row ≡ Ok next → show_answer s row ≡ Ok (offer_of next)
  -- an offer that is shown is accepted, and leads where taking the row leads
  pub accepts : (o : Offer) → show_answer s row ≡ Ok o → accept_answer s row o ≡ advance_answer s row
  -- "An acceptance whose offer, whatever it holds, is not the one this station and row give is refused by 17"
  pub other : (o held : Offer) → show_answer s row ≡ Ok o → held ≢ o → accept_answer s row held ≡ Err cause.Offer
  -- "after the causes of the station and the row only": what refuses the row refuses the offer and, whatever it holds, the acceptance
  pub refused : (c : Cause) → advance_answer s row ≡ Err c
      → (show_answer s row ≡ Err c) × ((held : Offer) → accept_answer s row held ≡ Err c)

abbrev pub TogetherAsOne : Type 0
TogetherAsOne = (s : Station) (row : List ℕ) → Together s row

-- ---- "A cut between the two leaves the station before the row, and a new offer on that row equals the first."

-- the station that a caller has after a call: the following one, or the one that it had
abbrev pub kept : Station → Result Station Cause → Station
kept s (Ok next) = next
kept s (Err c) = s

-- .. after acceptances with these offers, one after another, on one row
abbrev pub tried : Station → List ℕ → List Offer → Station
tried s row [] = s
tried s row (held ∷ more) = tried (kept s (accept_answer s row held)) row more

-- none of these is that offer
abbrev pub NoneIs : Offer → List Offer → Type 0
NoneIs o [] = Unit {0}
NoneIs o (held ∷ more) = (held ≢ o) × NoneIs o more

-- whatever else was tried before: "and the station stays", the offer is the first, and its acceptance takes the row
pub record AfterCuts (s : Station) (row : List ℕ) (held : List Offer) : Type 0 where
  pub stays : tried s row held ≡ s
  pub same_offer : show_answer (tried s row held) row ≡ show_answer s row
  pub goes_on : accept_answer (tried s row held) row (offer_for s row) ≡ advance_answer s row

abbrev pub AfterAnyCuts : Type 0
AfterAnyCuts = (s : Station) (row : List ℕ) (held : List Offer) → NoneIs (offer_for s row) held → AfterCuts s row held

-- ---- "and its ballot (255 if that state is done)"

-- an offer's ballot, beside what the station that it leads to answers
pub record ShowsBallot (next : Station) (o : Offer) : Type 0 where
  pub running : (r : ℕ) → result_answer next ≡ Ok (station_result.Running r) → ballot_answer next ≡ Ok o.ballot
  pub done : (v g f k : ℕ) → result_answer next ≡ Ok (station_result.Done v g f k)
      → (o.ballot ≡ 255) × (ballot_answer next ≡ Err cause.StationState)
  pub one_of_these : (c : Cause) → result_answer next ≢ Err c

abbrev pub ShownBallot : Type 0
ShownBallot = (s : Station) (row : List ℕ) (next : Station) → advance_answer s row ≡ Ok next → ShowsBallot next (offer_of next)

-- A station run singly on the rows of a log, stepped by offer and acceptance: the same stations, and each offer shows the ballot that the log has of it in
-- the next round.
pub record Ahead (n t T sender : ℕ) (log outcomes : List ℕ) (i v : ℕ) (S : Singly n t T sender log outcomes i v) : Type 0 where
  pub shows : (m : ℕ) → m < rounds t
      → show_answer (S.station m) (column n log i (m + 1)) ≡ Ok (offer_of (S.station (m + 1)))
  pub accepts : (m : ℕ) → m < rounds t
      → accept_answer (S.station m) (column n log i (m + 1)) (offer_of (S.station (m + 1))) ≡ Ok (S.station (m + 1))
  pub in_log : (m j : ℕ) → m + 1 < rounds t → j < n → (offer_of (S.station (m + 1))).ballot ≡ at log (place n (m + 2) i j)
  pub at_the_end : (offer_of (S.station (rounds t))).ballot ≡ 255

abbrev pub ShownAhead : Type 0
ShownAhead =
    (n t T sender : ℕ) (log outcomes : List ℕ) (i v : ℕ) (S : Singly n t T sender log outcomes i v) → Ahead n t T sender log outcomes i v S

-- ---- for C: of any 64 bits only those of the offer are read as it, so that each of them is compared

abbrev pub WordComparedWhole : Type 0
WordComparedWhole =
    (s : Station) (row : List ℕ) (o : Offer) → show_answer s row ≡ Ok o → (word : ℕ) → (offer_in word ≡ o) ↔ (word ≡ offer_word o)
