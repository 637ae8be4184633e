-- Demand 2, of the calls: what `open`, `ballot`, `advance` and `result` answer on the rows of a log (`Singly` of crate station). The sentences quoted are the
-- demand's own (docs/AUDIT.md, "What is asked"). Station i is counted from 0: its number is i + 1.
use Rattle.std.specs.Prelude.{ℕ, ◌+◌, ◌*◌, ◌≤◌, ◌<◌, ◌≡◌, true, List, length}
use Rattle.line.specs.Line.{rounds, table_length, outcome_size, outcomes_length, place}
use Rattle.line.specs.Marks.{marked}
use Rattle.broadcast.specs.Station.{at}
use Rattle.broadcast.specs.Bytes.{Run}
use Rattle.broadcast.specs.Guarantees.{Good}
use Rattle.station.specs.Singly.{Singly}

-- a log and outcomes put together from the calls of single good stations, station i opened with v i, and the bad ones' bytes: the table's in the log, 255 in
-- the outcomes
pub record MadeOfCalls (R : Run) (v : ℕ → ℕ) (log outcomes : List ℕ) : Type 0 where
  pub log_size : length log ≡ table_length R.n R.t
  pub outcomes_size : length outcomes ≡ outcomes_length R.n
  pub good : (i : ℕ) → Good R.n (marked R.marks) i → Singly R.n R.t R.T R.sender log outcomes i (v i)
  pub bad_ballots : (r i j : ℕ) → 1 ≤ r → r ≤ rounds R.t → i < R.n → j < R.n → marked R.marks i ≡ true
      → at log (place R.n r i j) ≡ at R.table (place R.n r i j)
  pub bad_outcomes : (i d : ℕ) → i < R.n → d < outcome_size → marked R.marks i ≡ true → at outcomes (outcome_size * i + d) ≡ 255

-- what the stations are opened with: "a value, which matters only at the sender", and is 0 or 1 at every station
pub record Values (R : Run) (v : ℕ → ℕ) : Type 0 where
  pub bit : (i : ℕ) → Good R.n (marked R.marks) i → v i ≤ 1
  pub at_sender : (i : ℕ) → i + 1 ≡ R.sender → v i ≡ R.value

-- demand 2 of a log and outcomes
pub record SingleStations (R : Run) (v : ℕ → ℕ) (log outcomes : List ℕ) : Type 0 where
  -- "Good stations run singly on the rows they received send those ballots and reach those outcomes"
  pub singly : MadeOfCalls R v log outcomes
  -- "and single good stations put together with the bad ones' bytes give the whole run": these and no others
  pub together : (log' outcomes' : List ℕ) → MadeOfCalls R v log' outcomes' → (log' ≡ log) × (outcomes' ≡ outcomes)
