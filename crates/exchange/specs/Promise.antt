-- The graded exchange had alone (document 01, the last paragraph of "The graded exchange", and "Refused causes"): its judgement and its promise.
use Rattle.std.specs.Prelude.{ℕ, ◌≡◌, not, ◌&&◌, List, eqb, ltb, length}
use Rattle.line.specs.Count.{count}
use Rattle.line.specs.Line.{exchange_length, outcomes_length}
use Rattle.line.specs.Marks.{marked}
use Rattle.refusal.specs.Cause.{Judged, refused_if, ◌or_else◌, written, no_cause}
use Rattle.header.specs.Header.{line_verdict, marks_within, exact_length}
use Rattle.refusal.specs.declared.cause.Cause.TheVariants.{Value}
use Rattle.refusal.specs.Cause.{Verdict}
use Rattle.broadcast.specs.Station.{at}
use Rattle.broadcast.specs.Bytes.{exchange_outcomes}
use Rattle.broadcast.specs.Guarantees.{GradedConsensus}
use Rattle.broadcast.specs.Theorems.{value_at, grade_at}

-- "an unmarked station's input, not 0 or 1": how many of the n there are
unfoldable pub foreign_inputs : ℕ → ℕ → List ℕ → ℕ
foreign_inputs n marks inputs = count n (λ i. not (marked marks i) && ltb 1 (at inputs i))

-- cause 5. "An input row is judged for 5 only if its length is exact."
unfoldable pub inputs_verdict : ℕ → ℕ → List ℕ → Verdict
inputs_verdict n marks inputs = refused_if (eqb (length inputs) n && ltb 0 (foreign_inputs n marks inputs)) Value

-- causes 2, 3, 5, 6 and 8: "The lowest number wins". The table and the outcomes are judged by their lengths
unfoldable pub exchange_verdict : ℕ → ℕ → ℕ → ℕ → List ℕ → ℕ → ℕ → Verdict
exchange_verdict n t T marks inputs table_size outcomes_size =
    line_verdict n t T
    or_else inputs_verdict n marks inputs
    or_else marks_within n marks
    or_else exact_length n (length inputs)
    or_else exact_length (exchange_length n) table_size
    or_else exact_length (outcomes_length n) outcomes_size

-- The promise, for all arguments: `before` and `after` are the outcomes' bytes at entry and at exit.
pub record Exchanged (n t T marks : ℕ) (inputs table before after : List ℕ) (answer : Verdict) : Type 0 where
  pub judged : Judged (exchange_verdict n t T marks inputs (length table) (length before)) answer
  pub outcomes_are : after ≡ written answer (exchange_outcomes n t T marks inputs table) before
  pub graded_consensus : answer ≡ no_cause → GradedConsensus n t T (marked marks) (at inputs) (value_at after) (grade_at after)
