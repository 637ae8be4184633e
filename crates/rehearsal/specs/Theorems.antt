-- Demand 3 of real bonders, by demand 2: what is shown of good stations that run singly, with no rehearsal. The statements have names here, and
-- proofs/Theorems.antt has the laws that prove them. Station i is counted from 0: its number is i + 1.
use Rattle.std.specs.Prelude.{ℕ, ◌≤◌, ◌≡◌, ◌≢◌, List, length}
use Rattle.refusal.specs.Cause.{no_cause}
use Rattle.line.specs.Line.{from_0, table_length}
use Rattle.line.specs.Marks.{marked, faults}
use Rattle.header.specs.Header.{header_verdict}
use Rattle.broadcast.specs.Bytes.{Run, log, outcomes}
use Rattle.broadcast.specs.Guarantees.{Good, TwoThreshold}
use Rattle.broadcast.specs.Theorems.{value_at, flag_at}
use Rattle.station.specs.Singly.{Singly}
use Rattle.rehearsal.specs.Calls.{Values}
use Rattle.rehearsal.specs.Promise.{run_of}

-- A line of bonders: no run table is handed in. `received` is laid out like one: at place n r i j is the byte that station j received from i in round r, at a
-- bad j the one that was sent to it. What a bad station sent is any byte, and may differ from receiver to receiver. `outcomes` is laid out like a rehearsal's; its
-- length and a bad one's bytes may be any.
pub record Bonders (n t T sender value marks : ℕ) (v : ℕ → ℕ) (received outcomes : List ℕ) : Type 0 where
  -- there is a byte for each round, sender and receiver
  pub received_size : length received ≡ table_length n t
  -- good station i is opened with v i, which is 0 or 1, and the sender with `value`; where the sender is bad, `value` is 0 or 1 and stands for nothing
  pub values : Values (run_of n t T sender value marks received) v
  -- each good station runs by its own calls on the rows that it received: every station receives from it what `ballot` tells, and its bytes of the outcomes are
  -- what `result` answers at the end
  pub good : (i : ℕ) → Good n (marked marks) i → Singly n t T sender received outcomes i (v i)

-- there are such lines: every rehearsal's log and outcomes are one
abbrev pub RehearsedBonders : Type 0
RehearsedBonders =
    (R : Run) → header_verdict R.n R.t R.T R.sender R.value R.marks ≡ no_cause
    → (v : ℕ → ℕ) → Values R v
    → Bonders R.n R.t R.T R.sender R.value R.marks v (log R) (outcomes R)

-- all of demand 3 holds of what such stations decide and flag, whatever the bad ones sent, where no cause of 2 to 6 refuses the line's numbers
abbrev pub Demand3OfBonders : Type 0
Demand3OfBonders =
    (n t T sender value marks : ℕ) (v : ℕ → ℕ) (received outcomes : List ℕ)
    → header_verdict n t T sender value marks ≡ no_cause
    → Bonders n t T sender value marks v received outcomes
    → TwoThreshold 2 n t T (marked marks) (from_0 sender) value (value_at outcomes) (flag_at outcomes)

-- f at most T, and one good station that doesn't raise its flag: all good stations of such a line decide one value
abbrev pub UnflaggedBondersAgree : Type 0
UnflaggedBondersAgree =
    (n t T sender value marks : ℕ) (v : ℕ → ℕ) (received outcomes : List ℕ)
    → header_verdict n t T sender value marks ≡ no_cause
    → Bonders n t T sender value marks v received outcomes
    → faults n (marked marks) ≤ T → (k : ℕ) → Good n (marked marks) k → flag_at outcomes k ≢ 1
    → (i j : ℕ) → Good n (marked marks) i → Good n (marked marks) j → value_at outcomes i ≡ value_at outcomes j
