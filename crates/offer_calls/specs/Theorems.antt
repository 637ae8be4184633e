-- What C has of offer, acceptance and taking a row, said of the numbers that the calls answer. Each statement has a name here, and proofs/Theorems.antt has the law that proves it.
use Rattle.std.specs.Prelude.{ℕ, ◌/◌, ◌≤◌, ◌≡◌, ◌≢◌, List}
use Rattle.refusal.specs.Cause.{answer_word}
use Rattle.controller.specs.Words.{station_of, state_word, AdvanceAnswer}
use Rattle.offer_calls.specs.Words.{OfferAnswer, AcceptAnswer}

-- the refusal's number in an answer, 0 where nothing is refused
abbrev pub refusal_in : ℕ → ℕ
refusal_in answer = answer / 72057594037927936

-- `shown` is what `vembopu_offer`, `taken` what `vembopu_advance` and r what `vembopu_accept` answers on the same numbers, state and row
pub record OnNumbers (n t T sender own state : ℕ) (row : List ℕ) (shown taken : ℕ) : Type 0 where
  -- the offer's answer handed on as it is: the acceptance answers as taking the row does, whether that is refused or not
  pub handed_on : (r : ℕ) → AcceptAnswer n t T sender own state row shown r → r ≡ taken
  -- any other 64 bits, where the row would be taken: 17, and the state that was handed in
  pub other : (offer r : ℕ) → refusal_in taken ≡ 0 → offer ≢ shown → AcceptAnswer n t T sender own state row offer r
      → r ≡ answer_word 17 (state_word (station_of n t T sender own state))
  -- where the row is refused, the acceptance of any 64 bits is refused by the same number
  pub refused : (offer r : ℕ) → 1 ≤ refusal_in taken → AcceptAnswer n t T sender own state row offer r → r ≡ taken

abbrev pub OffersOnNumbers : Type 0
OffersOnNumbers =
    (n t T sender own state : ℕ) (row : List ℕ) (shown taken : ℕ) → OfferAnswer n t T sender own state row shown → AdvanceAnswer n t T sender own state row taken
    → OnNumbers n t T sender own state row shown taken
