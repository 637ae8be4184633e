-- The test is what the request says. Assumes nothing.
use Rattle.std.specs.Prelude.{if◌then◌else◌}
use Prim.Native.Nat.{ℕ, zero, suc, ◌+◌, ◌-◌, ◌≤◌, ◌<◌}
use mathlib.Core.Path.{◌≡◌, refl, sym, ◌∙◌}
use mathlib.Core.Bool.{Bool, true, false, ◌||◌}
use mathlib.Core.Logic.{◌↔◌}
use native.Mathlib.Omega.{arith}
use borrow.Author.Tests.{eqb-true, eq-eqb}
use Rattle.line.specs.Count.{all}
use Rattle.line.specs.Line.{rounds, place}
use Rattle.line.proofs.CountLaws.{both_true, both_hold, all_true, all_hold}
use Rattle.broadcast.specs.Station.{ballot, result, at}
use Rattle.broadcast.specs.Bytes.{column}
use Rattle.broadcast.specs.Theorems.{grade_at}
use Rattle.broadcast.proofs.RoundLaws.{after_range}
use Rattle.broadcast.proofs.Theorems.{done_after_rows}
use Rattle.rules.specs.Rules.{Logged, station, state, KeepsWith, Keeps, byte_is, bytes_are, keeps_with, keeps}
use Rattle.rules.proofs.OutcomeLaws.{ending, outcome_true, outcome_hold, grade_ended}

-- ---- one station

module _ (L : Logged) (i v : ℕ) where
  is_done : result (station L i) (state L i v (rounds L.t)) ≡ ending (state L i v (rounds L.t))
  unfolding station state
  is_done = (done_after_rows (station L i) v _).done_after

  byte_true : (m j : ℕ) → byte_is L i v m j ≡ true → at L.log (place L.n (m + 1) i j) ≡ ballot (station L i) (state L i v m)
  unfolding byte_is
  byte_true m j e = eqb-true _ _ e

  pub with_true : keeps_with L i v ≡ true → KeepsWith L i v
  unfolding keeps_with bytes_are
  with_true e =
      let (a, b) = both_true (all (rounds L.t) (bytes_are L i v)) _ e in
      record {
        bytes = λ r j h l k.
            let back : r - 1 + 1 ≡ r = omega arith in
            let below : r - 1 < rounds L.t = omega arith in
            rw back at (byte_true (r - 1) j (all_true L.n _ (all_true (rounds L.t) _ a (r - 1) below) j k));
        outcome = is_done ∙ outcome_true _ _ _ b;
      }

  pub with_hold : KeepsWith L i v → keeps_with L i v ≡ true
  unfolding keeps_with bytes_are byte_is
  with_hold K =
      both_hold _ _
      (all_hold (rounds L.t) _
      (λ m h. all_hold L.n _
      (λ j k.
      let back : m + 1 - 1 ≡ m = omega arith in
      eq-eqb _ _ (rw back at (K.bytes (m + 1) j (omega arith) (omega arith) k)))))
      (outcome_hold _ _ _ (sym is_done ∙ K.outcome))

-- who keeps the rules has a logged grade of 0 to 2
pub kept_grade : (L : Logged) (i v : ℕ) → v ≤ 1 → KeepsWith L i v → grade_at L.outcomes i ≤ 2
unfolding state
kept_grade L i v h K =
    let e = grade_ended (state L i v (rounds L.t)) L.outcomes i (sym (is_done L i v) ∙ K.outcome) in
    rw e at (after_range (station L i) v (column L.n L.log i) h (rounds L.t)).grade_high

-- a value with which station i keeps the rules, if there is one
unfoldable pub own_value : Logged → ℕ → ℕ
own_value L i = if keeps_with L i 0 then 0 else 1

module _ (L : Logged) (i : ℕ) where
  pub own_bit : own_value L i ≤ 1
  unfolding own_value
  own_bit = go (keeps_with L i 0)
    where
      go : (b : Bool) → (if b then 0 else 1) ≤ 1
      go true = omega arith
      go false = omega arith

  pub keeps_true : keeps L i ≡ true → KeepsWith L i (own_value L i)
  unfolding keeps own_value
  keeps_true e = go (keeps_with L i 0) refl e
    where
      go : (b : Bool) → keeps_with L i 0 ≡ b → b || keeps_with L i 1 ≡ true → KeepsWith L i (if b then 0 else 1)
      go true q e = with_true L i 0 q
      go false q e = with_true L i 1 e

  pub keeps_hold : Keeps L i → keeps L i ≡ true
  unfolding keeps
  keeps_hold (v, h, K) = go v h (with_hold L i v K)
    where
      either : (a : Bool) → a || true ≡ true
      either true = refl
      either false = refl

      go : (v : ℕ) → v ≤ 1 → keeps_with L i v ≡ true → keeps_with L i 0 || keeps_with L i 1 ≡ true
      go zero h e = rw e
      go (suc zero) h e = rw e (either (keeps_with L i 0))
      go (suc (suc v)) h e = absurd (omega arith)

  pub decided : (keeps L i ≡ true) ↔ Keeps L i
  decided = (λ e. (own_value L i, own_bit, keeps_true e), keeps_hold)
