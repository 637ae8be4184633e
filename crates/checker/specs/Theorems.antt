-- What is shown beside the call's promise. Each statement has a name here, and proofs/Theorems.antt has the law that proves it.
use Rattle.std.specs.Prelude.{◌≡◌, ◌↔◌, List, ℕ, ◌≤◌, ◌<◌}
use Rattle.refusal.specs.Cause.{no_cause}
use Rattle.std.specs.declared.result.Result.TheVariants.{Ok}
use Rattle.broadcast.specs.Bytes.{Run}
use Rattle.rules.specs.Rules.{Logged, KeepsWith}
use Rattle.station.specs.Singly.{Singly}
use Rattle.rehearsal.specs.Promise.{Rehearsed}
use Rattle.checker.specs.Promise.{logged, verdict_of, check_answer}

-- "A log and outcomes that our rehearsal wrote yield exactly its marks.": of what `rehearse` promises, where it accepts
abbrev pub OwnLogs : Type 0
OwnLogs =
    (R : Run) (log₀ log₁ outcomes₀ outcomes₁ : List ℕ) → Rehearsed R log₀ log₁ outcomes₀ outcomes₁ no_cause
    → check_answer (logged R.n R.t R.T R.sender log₁ outcomes₁) ≡ Ok R.marks

-- the rules are those of our own station: where nothing is refused, v makes station i keep them exactly if a single station, opened with v, answers its calls (`open`, `ballot`,
-- `advance`, `result`) as the log and the outcomes have it, on the rows that the log has for it
abbrev pub KeepsByCalls : Type 0
KeepsByCalls =
    (L : Logged) → verdict_of L ≡ no_cause → (i v : ℕ) → i < L.n → v ≤ 1
    → KeepsWith L i v ↔ Singly L.n L.t L.T L.sender L.log L.outcomes i v
