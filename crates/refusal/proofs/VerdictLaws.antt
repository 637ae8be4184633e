-- Laws of verdicts. Assumes nothing.
use Prim.Native.Nat.{ℕ, ◌≤◌}
use Rattle.std.specs.declared.result.Result.TheVariants.{Ok, Err}
use mathlib.Core.Path.{◌≡◌, refl, ap, ◌∙◌}
use mathlib.Core.List.{List}
use native.Mathlib.Omega.{arith}
use mathlib.Core.Bool.{Bool, true, false, ◌||◌}
use Rattle.refusal.specs.Cause.{number, code, Judged, refused_if, ◌or_else◌, no_cause, Verdict, answered, values, given}
use Rattle.std.specs.declared.result.Result.{Result}
use Rattle.std.specs.Result.{IsErr}
use Rattle.refusal.specs.declared.cause.Cause.{Cause}
use Rattle.refusal.specs.declared.cause.Cause.TheVariants.{SheetForm, StationCount, Thresholds, StationNumber, Value, MarkBeyond, StationState, Length, ChainLeaves, ChainRepeats, RecordForm, UnmarkedSender, Duplicate, TooManyRecords, Width, Seed, Offer}

pub judged : {verdict answer : Verdict} → answer ≡ verdict → Judged verdict answer
judged e = record { answer_is = e; number_is = ap code e }

-- an answer's number and values, by the verdict
answered_code : {A : Type 0} (v : Verdict) (a : A) → code (answered v a) ≡ code v
answered_code (Ok _) a = refl
answered_code (Err c) a = refl

answered_values : {A : Type 0} (list : A → List ℕ) (v : Verdict) (a : A) → values list (answered v a) ≡ given v (list a)
answered_values list (Ok _) a = refl
answered_values list (Err c) a = refl

pub code_by : {A : Type 0} {r : Result A Cause} (v : Verdict) (a : A) → r ≡ answered v a → code r ≡ code v
code_by v a e = ap code e ∙ answered_code v a

pub values_by : {A : Type 0} {r : Result A Cause} (list : A → List ℕ) (v : Verdict) (a : A) → r ≡ answered v a → values list r ≡ given v (list a)
values_by list v a e = ap (values list) e ∙ answered_values list v a

-- an answer that is an error has a cause
pub some_cause : {A : Type 0} (r : Result A Cause) → IsErr r → (c : Cause) × (r ≡ Err c)
some_cause (Ok a) e = let z : false ≡ true = e in absurd (let y : ◌≡◌ {A = ℕ} 0 1 = cc in omega arith)
some_cause (Err c) e = (c, refl)

pub refused_true : {test : Bool} (c : Cause) → test ≡ true → refused_if test c ≡ Err c
unfolding refused_if
refused_true c e = rw e

pub refused_false : {test : Bool} (c : Cause) → test ≡ false → refused_if test c ≡ no_cause
unfolding refused_if
refused_false c e = rw e

pub never : {c : Cause} {A : Type 0} → Err c ≡ no_cause → A
never e = let z : ◌≡◌ {A = ℕ} 0 1 = cc in absurd (omega arith)

-- an accepted test does not hold
pub accepted_false : (test : Bool) (c : Cause) → refused_if test c ≡ no_cause → test ≡ false
unfolding refused_if
accepted_false true c e = never e
accepted_false false c e = refl

-- where the first of two that are not both refused is accepted, so is the second
pub both_accepted : (a b : Verdict) → a or_else b ≡ no_cause → (a ≡ no_cause) × (b ≡ no_cause)
both_accepted (Ok _) b e = (refl, e)
both_accepted (Err c) b e = never e

pub neither : (a b : Bool) → a || b ≡ false → (a ≡ false) × (b ≡ false)
neither false b e = (refl, e)
neither true b e = let z : true ≡ false = e in (z, cc)

-- 0 is no cause's number
pub number_some : (c : Cause) → 1 ≤ number c
number_some SheetForm = omega arith
number_some StationCount = omega arith
number_some Thresholds = omega arith
number_some StationNumber = omega arith
number_some Value = omega arith
number_some MarkBeyond = omega arith
number_some StationState = omega arith
number_some Length = omega arith
number_some ChainLeaves = omega arith
number_some ChainRepeats = omega arith
number_some RecordForm = omega arith
number_some UnmarkedSender = omega arith
number_some Duplicate = omega arith
number_some TooManyRecords = omega arith
number_some Width = omega arith
number_some Seed = omega arith
number_some Offer = omega arith
