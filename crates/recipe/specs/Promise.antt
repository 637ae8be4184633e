-- What `bit` and `rehearse` promise, for all arguments.
use Rattle.std.specs.Prelude.{ℕ, ◌^◌, ◌<◌, ◌≡◌, List, length}
use Rattle.line.specs.Line.{from_0, table_length, outcomes_length}
use Rattle.line.specs.Marks.{marked}
use Rattle.line.specs.Width.{bits, tables_length, part_of}
use Rattle.refusal.specs.Cause.{Judged, ◌or_else◌, written, no_cause}
use Rattle.refusal.specs.Cause.{Verdict}
use Rattle.header.specs.Header.{number_verdict, exact_length}
use Rattle.header.specs.declared.Header.{Header}
use Rattle.broadcast.specs.Bytes.{Run, log, outcomes}
use Rattle.broadcast.specs.Guarantees.{TwoThreshold}
use Rattle.broadcast.specs.Theorems.{value_at, flag_at}
use Rattle.number.specs.Numbers.{NumberRun, bit_run, logs, gathered, number_outcomes}
use Rattle.rehearsal.specs.Calls.{Values, MadeOfCalls, SingleStations}
use Rattle.rehearsal.specs.Promise.{verdict_of}
use Rattle.recipe.specs.Gathered.{with_bits_below}

-- ---- one bit of a number, with one table and one log

-- The promise of `bit`: bit b's run is R. `log₀` and `outcomes₀` are the buffers at entry, `log₁` and `outcomes₁` at exit.
pub record RehearsedBit (b : ℕ) (R : Run) (log₀ log₁ outcomes₀ outcomes₁ : List ℕ) (answer : Verdict) : Type 0 where
  -- as `rehearse` of crate rehearsal judges it
  pub judged : Judged (verdict_of R log₀ outcomes₀) answer
  pub log_is : log₁ ≡ written answer (log R) log₀
  -- the outcomes of bit b, with those of the bits below it, which stood there
  pub outcomes_are : outcomes₁ ≡ written answer (with_bits_below b (outcomes R) outcomes₀) outcomes₀

-- ---- the whole number

-- what a rehearsal of a number is handed
abbrev pub number_run_of : ℕ → ℕ → ℕ → ℕ → ℕ → ℕ → ℕ → List ℕ → NumberRun
number_run_of n t T sender number w marks tables =
    record { n = n; t = t; T = T; sender = sender; number = number; w = w; marks = marks; tables = tables }

-- the same of a header's numbers
abbrev pub number_run_with : Header → List ℕ → NumberRun
number_run_with h tables = number_run_of h.line.n h.line.t h.line.upper h.sender h.value h.w h.marks tables

-- 15, "first in a call without a sheet", then 2 to 6, then 8 for the tables, the logs and the outcomes, each by its length
unfoldable pub number_rehearsal_verdict : ℕ → ℕ → ℕ → ℕ → ℕ → ℕ → ℕ → ℕ → ℕ → ℕ → Verdict
number_rehearsal_verdict n t T sender number w marks tables_size logs_size outcomes_size =
    number_verdict n t T sender number w marks
    or_else exact_length (tables_length n t w) tables_size
    or_else exact_length (tables_length n t w) logs_size
    or_else exact_length (outcomes_length n) outcomes_size

abbrev pub number_verdict_of : NumberRun → List ℕ → List ℕ → Verdict
number_verdict_of N logs outcomes =
    number_rehearsal_verdict N.n N.t N.T N.sender N.number N.w N.marks
    (length N.tables) (length logs) (length outcomes)

-- demand 2 of a number: "single stations give the run bit by bit". In bit b station i is opened with v b i
pub record BitByBit (N : NumberRun) (v : ℕ → ℕ → ℕ) (logs outcomes : List ℕ) : Type 0 where
  -- what bit b's stations end with
  pub results : ℕ → List ℕ
  -- for each bit's part of the logs: single good stations send those ballots and reach those results, and put together with the bad ones' bytes give them
  pub each : (b : ℕ) → b < bits N.w
      → SingleStations (bit_run N b) (v b) (part_of (table_length N.n N.t) logs b) (results b)
  -- the results make the outcomes
  pub outcomes_are : outcomes ≡ gathered N.n N.marks (bits N.w) results
  -- and so no other logs and outcomes are made by single stations, bit by bit
  pub together : (logs' : List ℕ) (results' : ℕ → List ℕ) → length logs' ≡ tables_length N.n N.t N.w
      → ((b : ℕ) → b < bits N.w → MadeOfCalls (bit_run N b) (v b) (part_of (table_length N.n N.t) logs' b) (results' b))
      → (logs' ≡ logs) × (gathered N.n N.marks (bits N.w) results' ≡ outcomes)

-- The promise of `rehearse`. `logs₀` and `outcomes₀` are the buffers at entry, `logs₁` and `outcomes₁` at exit.
pub record RehearsedRecipe (N : NumberRun) (logs₀ logs₁ outcomes₀ outcomes₁ : List ℕ) (answer : Verdict) : Type 0 where
  -- accepted, or the first cause that holds, and its number
  pub judged : Judged (number_verdict_of N logs₀ outcomes₀) answer
  -- every byte of the logs at exit: the run's, or as it was
  pub logs_are : logs₁ ≡ written answer (logs N) logs₀
  -- every byte of the outcomes at exit: the run's, or as they were
  pub outcomes_are : outcomes₁ ≡ written answer (number_outcomes N) outcomes₀
  -- demand 2, of the bytes at exit and the calls of single stations, bit by bit, whatever values these are opened with
  pub demand_2 : answer ≡ no_cause → (v : ℕ → ℕ → ℕ) → ((b : ℕ) → b < bits N.w → Values (bit_run N b) (v b)) → BitByBit N v logs₁ outcomes₁
  -- demand 3, of the outcome bytes at exit, for every w
  pub demand_3 : answer ≡ no_cause
      → TwoThreshold (2 ^ bits N.w) N.n N.t N.T (marked N.marks) (from_0 N.sender) N.number (value_at outcomes₁) (flag_at outcomes₁)
