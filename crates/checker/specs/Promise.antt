-- What `check` promises, for all arguments.
use Rattle.std.specs.Prelude.{ℕ, ◌≡◌, List, [], ◌∷◌, length}
use Rattle.refusal.specs.declared.cause.Cause.{Cause}
use Rattle.std.specs.declared.result.Result.{Result}
use Rattle.std.specs.declared.result.Result.TheVariants.{Ok, Err}
use Rattle.line.specs.Line.{table_length, outcomes_length}
use Rattle.refusal.specs.Cause.{number, code, ◌or_else◌, given, single, values, answered}
use Rattle.refusal.specs.Cause.{Verdict}
use Rattle.header.specs.Header.{line_verdict, station_number, exact_length}
use Rattle.rules.specs.Rules.{Logged, Exactly, broke}
use Rattle.rules.specs.Theorems.{Least}

-- what the checker is handed: "n, t, T, sender, log and outcomes"
abbrev pub logged : ℕ → ℕ → ℕ → ℕ → List ℕ → List ℕ → Logged
logged n t T sender log outcomes = record { n = n; t = t; T = T; sender = sender; log = log; outcomes = outcomes }

-- causes 2, 3 and 4, then 8 for the log and the outcomes, each by its length
unfoldable pub check_verdict : ℕ → ℕ → ℕ → ℕ → ℕ → ℕ → Verdict
check_verdict n t T sender log_size outcomes_size =
    line_verdict n t T
    or_else station_number n sender
    or_else exact_length (table_length n t) log_size
    or_else exact_length (outcomes_length n) outcomes_size

abbrev pub verdict_of : Logged → Verdict
verdict_of L = check_verdict L.n L.t L.T L.sender (length L.log) (length L.outcomes)

-- ---- the answer

-- what `check` answers
abbrev pub check_answer : Logged → Result ℕ Cause
check_answer L = answered (verdict_of L) (broke L)

-- The promise.
pub record Checks (L : Logged) (answer : Result ℕ Cause) : Type 0 where
  pub answer_is : answer ≡ check_answer L
  pub number_is : code answer ≡ code (verdict_of L)
  pub values_are : values single answer ≡ given (verdict_of L) (broke L ∷ [])
  -- "A station is in it exactly if no value of its own, with the rows it received, makes it send its logged bytes and end with its logged outcome."
  pub exactly : (marks : ℕ) → answer ≡ Ok marks → Exactly L marks
  -- "The set is the least marking under which the log is a run, with the outcomes of unmarked stations as logged."
  pub least : (marks : ℕ) → answer ≡ Ok marks → Least L marks
