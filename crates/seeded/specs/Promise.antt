-- What `rehearse` promises, for every header, every seed and every buffer.
use Rattle.std.specs.Prelude.{ℕ, ◌-◌, ◌^◌, ◌≡◌, List, length}
use Rattle.line.specs.Line.{from_0, table_length, outcomes_length}
use Rattle.line.specs.Marks.{marked}
use Rattle.line.specs.Width.{bits, part_of}
use Rattle.refusal.specs.Cause.{Judged, ◌or_else◌, written, no_cause}
use Rattle.refusal.specs.Cause.{Verdict}
use Rattle.header.specs.Header.{number_verdict, exact_length}
use Rattle.broadcast.specs.Bytes.{log}
use Rattle.broadcast.specs.Guarantees.{TwoThreshold}
use Rattle.broadcast.specs.Theorems.{value_at, flag_at}
use Rattle.number.specs.Numbers.{NumberRun, bit_run, number_outcomes}
use Rattle.header.specs.declared.Header.{Header}
use Rattle.generator.specs.Tables.{generated}
use Rattle.generator.specs.Judgement.{seed_some}
use Rattle.listing_lines.specs.Lines.{run}

-- the run of a header's number with the tables that a seed generates
unfoldable pub seed_run : Header → ℕ → NumberRun
seed_run h seed = run h (generated h seed)

-- the last bit's table, and its log
unfoldable pub last_table : Header → ℕ → List ℕ
last_table h seed = part_of (table_length h.line.n h.line.t) (generated h seed) (bits h.w - 1)

unfoldable pub last_log : Header → ℕ → List ℕ
last_log h seed = log (bit_run (seed_run h seed) (bits h.w - 1))

-- 15, "first in a call without a sheet", then 2 to 6, 16, "after the header's causes and before 8", and 8 for one bit's table, one bit's log and the outcomes, each by
-- its length
unfoldable pub seed_verdict : Header → (seed table_size log_size outcomes_size : ℕ) → Verdict
seed_verdict h seed table_size log_size outcomes_size =
    number_verdict h.line.n h.line.t h.line.upper h.sender h.value h.w h.marks
    or_else seed_some seed
    or_else exact_length (table_length h.line.n h.line.t) table_size
    or_else exact_length (table_length h.line.n h.line.t) log_size
    or_else exact_length (outcomes_length h.line.n) outcomes_size

-- The promise. `table₀`, `log₀` and `outcomes₀` are the buffers at entry, `table₁`, `log₁` and `outcomes₁` at exit.
pub record RehearsedSeed (h : Header) (seed : ℕ) (table₀ table₁ log₀ log₁ outcomes₀ outcomes₁ : List ℕ) (answer : Verdict) : Type 0 where
  -- accepted, or the first cause that holds, and its number
  pub judged : Judged (seed_verdict h seed (length table₀) (length log₀) (length outcomes₀)) answer
  -- one table and one log serve all bits: they have the last bit's bytes, or are as they were
  pub table_is : table₁ ≡ written answer (last_table h seed) table₀
  pub log_is : log₁ ≡ written answer (last_log h seed) log₀
  -- every byte of the outcomes at exit: those of the whole number, or as they were
  pub outcomes_are : outcomes₁ ≡ written answer (number_outcomes (seed_run h seed)) outcomes₀
  -- demand 3, of the outcome bytes at exit
  pub demand_3 : answer ≡ no_cause
      → TwoThreshold (2 ^ bits h.w) h.line.n h.line.t h.line.upper (marked h.marks) (from_0 h.sender) h.value (value_at outcomes₁) (flag_at outcomes₁)
