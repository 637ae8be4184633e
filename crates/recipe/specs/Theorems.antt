-- Demand 3 of real bonders at a recipe number: what is shown of good stations that run singly in each bit's broadcast, with no rehearsal. The statements have names
-- here, and proofs/Theorems.antt has the laws that prove them. Station i is counted from 0: its number is i + 1.
use Rattle.std.specs.Prelude.{ℕ, ◌^◌, ◌≤◌, ◌<◌, ◌≡◌, ◌≢◌, List}
use Rattle.refusal.specs.Cause.{no_cause}
use Rattle.line.specs.Line.{from_0}
use Rattle.line.specs.Marks.{marked, faults}
use Rattle.line.specs.Width.{bits, bit_of}
use Rattle.header.specs.Header.{number_verdict}
use Rattle.broadcast.specs.Guarantees.{Good, TwoThreshold}
use Rattle.number.specs.Numbers.{numbers, flags}
use Rattle.rehearsal.specs.Theorems.{Bonders}

-- In each bit's broadcast the bonders run by their own calls (`Bonders` of crate rehearsal), with the same marks and sender: bit b's stations are opened with v b, have
-- received `received b` and end with `results b`. The number that a station makes of its bits' values, and the flag that any bit raises, keep demand 3
abbrev pub Demand3OfNumberBonders : Type 0
Demand3OfNumberBonders =
    (n t T sender number w marks : ℕ) (v : ℕ → ℕ → ℕ) (received results : ℕ → List ℕ)
    → number_verdict n t T sender number w marks ≡ no_cause
    → ((b : ℕ) → b < bits w → Bonders n t T sender (bit_of number b) marks (v b) (received b) (results b))
    → TwoThreshold (2 ^ bits w) n t T (marked marks) (from_0 sender) number (numbers (bits w) results) (flags (bits w) results)

-- so with f at most T one good station without a flag is enough: all good stations have decided one number
abbrev pub UnflaggedNumberBondersAgree : Type 0
UnflaggedNumberBondersAgree =
    (n t T sender number w marks : ℕ) (v : ℕ → ℕ → ℕ) (received results : ℕ → List ℕ)
    → number_verdict n t T sender number w marks ≡ no_cause
    → ((b : ℕ) → b < bits w → Bonders n t T sender (bit_of number b) marks (v b) (received b) (results b))
    → faults n (marked marks) ≤ T → (k : ℕ) → Good n (marked marks) k → flags (bits w) results k ≢ 1
    → (i j : ℕ) → Good n (marked marks) i → Good n (marked marks) j → numbers (bits w) results i ≡ numbers (bits w) results j
