-- What the call by value promises, said of the lent station that is left. Assumes nothing.
use Prim.Native.Nat.{ℕ}
use Rattle.refusal.specs.declared.cause.Cause.{Cause}
use Rattle.std.specs.declared.result.Result.{Result}
use Rattle.std.specs.declared.result.Result.TheVariants.{Ok, Err}
use mathlib.Core.Path.{◌≡◌, refl, ap, ◌∙◌}
use mathlib.Core.List.{List}
use lib.ListN.{length}
use Rattle.refusal.specs.Cause.{number, code, answered, Verdict}
use Rattle.refusal.proofs.VerdictLaws.{code_by}
use Rattle.state.specs.declared.Station.{Station}
use Rattle.state.specs.Judgement.{taking_verdict}
use Rattle.station.specs.Answers.{Advances}
use Rattle.lent.specs.Lent.{moved_if, advanced_or_same, AdvancesLent}

-- the station that is left, by what the call by value answers
abbrev pub left : Station → Result Station Cause → Station
left s (Ok next) = next
left s (Err c) = s

left_is : (s next : Station) (v : Verdict) → left s (answered v next) ≡ moved_if v next s
left_is s next (Ok _) = refl
left_is s next (Err c) = refl

pub left_by : (s next : Station) (v : Verdict) {r : Result Station Cause} → r ≡ answered v next → left s r ≡ moved_if v next s
left_by s next v e = ap (left s) e ∙ left_is s next v

module _ (s : Station) (row : List ℕ) where
  by_step : {r : Result Station Cause} → Advances s row r → AdvancesLent s row (left s r) (code r)
  unfolding advanced_or_same
  by_step p =
      record { answer_is = code_by (taking_verdict s (length row)) _ p.answer; station_is = left_by s _ (taking_verdict s (length row)) p.answer }

  pub lent_next : {r : Result Station Cause} {next : Station} → Advances s row r → r ≡ Ok next → AdvancesLent s row next 0
  lent_next p e = rw e at (by_step p)

  pub lent_refused : {r : Result Station Cause} {c : Cause} → Advances s row r → r ≡ Err c → AdvancesLent s row s (number c)
  lent_refused p e = rw e at (by_step p)
