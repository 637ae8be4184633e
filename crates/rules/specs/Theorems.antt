-- The statements that proofs/Theorems.antt proves, each under the same name in lower case (document 02, request 3). Their hypotheses are the documents', and where
-- one of these is not needed it is left out.
use Rattle.std.specs.Prelude.{ℕ, ◌+◌, ◌*◌, ◌≤◌, ◌<◌, ◌≡◌, ◌↔◌, true, false, List, length}
use Rattle.line.specs.Line.{Fits, from_0, table_length, outcome_size, place}
use Rattle.line.specs.Marks.{marked, mark_beyond}
use Rattle.line.specs.Ballot.{sender_value}
use Rattle.broadcast.specs.Station.{at}
use Rattle.broadcast.specs.Bytes.{Run, log, outcomes}
use Rattle.broadcast.specs.Guarantees.{Good}
use Rattle.rules.specs.Rules.{Logged, Keeps, Exactly, keeps_with, keeps, broke}

-- ---- the set

-- the test is what the ticket says
abbrev pub KeepsIsDecided : Type 0
KeepsIsDecided = (L : Logged) (i : ℕ) → (keeps L i ≡ true) ↔ Keeps L i

-- `broke` is the set, of any log and outcomes, and no other marks are
abbrev pub BrokeExactly : Type 0
BrokeExactly = (L : Logged) → Exactly L (broke L)

abbrev pub OneSet : Type 0
OneSet = (L : Logged) (marks : ℕ) → Exactly L marks → marks ≡ broke L

-- one value is enough to try at all stations: what is read of the sender's own byte of round 1, to the first station
abbrev pub OneValueIsEnough : Type 0
OneValueIsEnough =
    (L : Logged) (i : ℕ) → 0 < L.n → keeps L i ≡ keeps_with L i (sender_value (at L.log (place L.n 1 (from_0 L.sender) 0)))

-- ---- the log as a run

-- the run with a value of the sender, marks and a table on the line of the log
abbrev pub run_on : Logged → ℕ → ℕ → List ℕ → Run
run_on L value marks table =
    record { n = L.n; t = L.t; T = L.T; sender = L.sender; value = value; marks = marks; table = table }

-- outcome bytes that are the same at station i
abbrev pub SameOutcome : List ℕ → List ℕ → ℕ → Type 0
SameOutcome bytes bytes' i = (d : ℕ) → d < outcome_size → at bytes (outcome_size * i + d) ≡ at bytes' (outcome_size * i + d)

-- a "marking under which the log is a run, with the outcomes of unmarked stations as logged"
pub record RunUnder (L : Logged) (marks : ℕ) : Type 0 where
  pub value : ℕ
  pub value_bit : value ≤ 1
  pub table : List ℕ
  pub the_log : log (run_on L value marks table) ≡ L.log
  pub the_outcomes : (i : ℕ) → Good L.n (marked marks) i → SameOutcome (outcomes (run_on L value marks table)) L.outcomes i

-- "The set is the least marking under which ..": the log is a run under these marks, with the log itself as the table, and every marking under which it is one contains them
pub record Least (L : Logged) (marks : ℕ) : Type 0 where
  pub is_run : RunUnder L marks
  pub its_table : is_run.table ≡ L.log
  pub contained : (marks' : ℕ) → RunUnder L marks' → (i : ℕ) → marked marks i ≡ true → marked marks' i ≡ true

-- what is asked of a line and a log: causes 3, 4 and 8
pub record Fitting (L : Logged) : Type 0 where
  pub fits : Fits L.n L.t L.T
  pub sender_low : 1 ≤ L.sender
  pub sender_high : L.sender ≤ L.n
  pub log_length : length L.log ≡ table_length L.n L.t

abbrev pub BrokeLeast : Type 0
BrokeLeast = (L : Logged) → Fitting L → Least L (broke L)

-- ---- our own logs

-- what a rehearsal writes, handed to the checker
abbrev pub logged_of : Run → Logged
logged_of R = record { n = R.n; t = R.t; T = R.T; sender = R.sender; log = log R; outcomes = outcomes R }

-- "A log and outcomes that our rehearsal wrote yield exactly its marks.": of a run that no cause refuses
abbrev pub OwnLogs : Type 0
OwnLogs =
    (R : Run) → Fits R.n R.t R.T → 1 ≤ R.sender → R.sender ≤ R.n → R.value ≤ 1 → mark_beyond R.n R.marks ≡ false
    → broke (logged_of R) ≡ R.marks
