-- What a call by value promises, said of its answer as a number. Assumes nothing.
use Prim.Native.Nat.{ℕ}
use Rattle.std.specs.Result.{result_unwrap_or}
use Rattle.refusal.specs.declared.cause.Cause.{Cause}
use Rattle.std.specs.declared.result.Result.{Result}
use mathlib.Core.Path.{◌≡◌}
use mathlib.Core.List.{List}
use Rattle.refusal.specs.Cause.{answer_word, code}
use Rattle.state.specs.declared.Station.{Station}
use Rattle.station.specs.declared.StationResult.{StationResult}
use Rattle.station.specs.Answers.{Opens, Tells, Advances, Results}
use Rattle.controller.specs.Words.{station_of, opened_word, advanced_word, result_word, OpenAnswer, BallotAnswer, AdvanceAnswer, ResultAnswer}

module _ (n t T sender own : ℕ) where
  pub opened_as : (value r : ℕ) (o : Result Station Cause) → Opens n t T sender own value o
      → r ≡ answer_word (code o) (opened_word o) → OpenAnswer n t T sender own value r
  opened_as value r o p e = record { answer = rw (← p.answer) e }

  module _ (state r : ℕ) (s : Station) (q : s ≡ station_of n t T sender own state) where
    pub told_as : (o : Result ℕ Cause) → Tells s o → r ≡ answer_word (code o) (result_unwrap_or o 0) → BallotAnswer n t T sender own state r
    told_as o p e = record { answer = rw (← q, ← p.answer) e }

    pub advanced_as : (row : List ℕ) (o : Result Station Cause) → Advances s row o → r ≡ answer_word (code o) (advanced_word s o)
        → AdvanceAnswer n t T sender own state row r
    advanced_as row o p e = record { answer = rw (← q, ← p.answer) e }

    pub result_as : (o : Result StationResult Cause) → Results s o → r ≡ answer_word (code o) (result_word o) → ResultAnswer n t T sender own state r
    result_as o p e = record { answer = rw (← q, ← p.answer) e }
