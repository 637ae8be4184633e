-- The promise of one bit, from the rehearsal beside it and what is gathered. Assumes nothing.
use Prim.Native.Nat.{ℕ, ◌≤◌, min}
use Rattle.std.specs.declared.result.Result.TheVariants.{Err}
use mathlib.Core.Path.{◌≡◌, refl, sym, ap, ◌∙◌}
use mathlib.Core.Bool.{Bool, true, false}
use mathlib.Core.Logic.{◌≢◌}
use mathlib.Core.List.{List}
use native.Mathlib.Omega.{arith}
use native.Mathlib.Nat.{min-eq_left, min-eq_right}
use lib.Dec.{ltb}
use lib.ListN.{length}
use borrow.Author.Tests.{ltb-false, ltb-true, ne_eqb, eq-eqb}
use Rattle.line.specs.Line.{outcomes_length, table_length}
use Rattle.refusal.specs.Cause.{◌or_else◌, no_cause}
use Rattle.refusal.specs.declared.cause.Cause.{Cause}
use Rattle.refusal.specs.declared.cause.Cause.TheVariants.{Length}
use Rattle.refusal.specs.Cause.{Verdict}
use Rattle.refusal.proofs.VerdictLaws.{judged, refused_true}
use Rattle.header.specs.Header.{header_verdict, exact_length}
use Rattle.header.proofs.HeaderLaws.{header_sound}
use Rattle.broadcast.specs.Bytes.{Run, outcomes}
use Rattle.broadcast.proofs.Theorems.{outcome_bytes}
use Rattle.rehearsal.specs.Promise.{rehearsal_verdict, verdict_of, Rehearsed}
use Rattle.rehearsal.proofs.PromiseLaws.{playable}
use Rattle.recipe.specs.Gathered.{added, with_bits_below}
use Rattle.recipe.specs.Promise.{RehearsedBit}
use Rattle.recipe.specs.Loops.{Alike}

-- ---- a part within 129 bytes is judged as the outcomes are

wrong_length : (wanted found : ℕ) → found ≢ wanted → exact_length wanted found ≡ Err Length
unfolding exact_length
wrong_length wanted found ne = refused_true _ (rw (ne_eqb found wanted ne))

-- no outcomes of 32 stations have 129 bytes or more
length_within : (n size : ℕ) → n ≤ 32 → exact_length (outcomes_length n) (min size 129) ≡ exact_length (outcomes_length n) size
length_within n size h = go (ltb size 129) refl
  where
    go : (c : Bool) → ltb size 129 ≡ c → exact_length (outcomes_length n) (min size 129) ≡ exact_length (outcomes_length n) size
    go true e = let l = ltb-true size 129 e in let m : min size 129 ≡ size = min-eq_left (omega arith) in rw m
    go false e =
        let l = ltb-false size 129 e in
        rw (min-eq_right l) (wrong_length _ 129 (λ (q : 129 ≡ outcomes_length n). omega arith) ∙ sym (wrong_length _ size (λ (q : size ≡ outcomes_length n). omega arith)))

module _ (R : Run) (log : List ℕ) (part below : List ℕ) (size : length part ≡ min (length below) 129) where
  pub verdict_within : verdict_of R log part ≡ verdict_of R log below
  unfolding rehearsal_verdict
  verdict_within = go (header_verdict R.n R.t R.T R.sender R.value R.marks) refl
    where
      go : (v : Verdict) → header_verdict R.n R.t R.T R.sender R.value R.marks ≡ v
          → (v or_else exact_length (table_length R.n R.t) (length R.table) or_else exact_length (table_length R.n R.t) (length log) or_else exact_length (outcomes_length R.n) (length part))
          ≡ (v or_else exact_length (table_length R.n R.t) (length R.table) or_else exact_length (table_length R.n R.t) (length log) or_else exact_length (outcomes_length R.n) (length below))
      go (Err c) e = refl
      go no_cause e =
          rw (size, length_within R.n (length below) (header_sound R.n R.t R.T R.sender R.value R.marks e).most)

-- ---- the promise

module _ (b : ℕ) (R : Run) (log₀ log₁ part₀ part₁ below : List ℕ) (answer : Verdict)
    (later : 1 ≤ b) (size : length part₀ ≡ min (length below) 129) (P : Rehearsed R log₀ log₁ part₀ part₁ answer) where
  as_outcomes : answer ≡ verdict_of R log₀ below
  as_outcomes = P.judged.answer_is ∙ verdict_within R log₀ part₀ below size

  -- accepted: the part has the outcomes of as many stations
  pub alike : answer ≡ no_cause → Alike part₁ below
  alike a =
      let whole = (playable R log₀ below (sym as_outcomes ∙ a)).1 in
      record {
        whole = omega (arith, whole);
        part_size = ap length P.outcomes_are ∙ rw a ((outcome_bytes R).size ∙ sym whole);
      }

  pub accepted : (outcomes₁ : List ℕ) → answer ≡ no_cause → outcomes₁ ≡ added b part₁ below → RehearsedBit b R log₀ log₁ below outcomes₁ answer
  unfolding with_bits_below
  accepted outcomes₁ a e =
      let ne : b ≢ 0 = λ q. omega arith in
      let whole : part₁ ≡ outcomes R = P.outcomes_are ∙ rw a refl in
      record {
        judged = judged as_outcomes;
        log_is = P.log_is;
        outcomes_are = rw (a, ne_eqb b 0 ne, ← whole) e;
      }

  pub refused : (c : Cause) → answer ≡ Err c → RehearsedBit b R log₀ log₁ below below answer
  refused c r = record { judged = judged as_outcomes; log_is = P.log_is; outcomes_are = rw r refl }

-- bit 0: the rehearsal itself
pub first : (b : ℕ) (R : Run) (log₀ log₁ outcomes₀ outcomes₁ : List ℕ) (answer : Verdict) → b ≡ 0
    → Rehearsed R log₀ log₁ outcomes₀ outcomes₁ answer → RehearsedBit b R log₀ log₁ outcomes₀ outcomes₁ answer
unfolding with_bits_below
first b R log₀ log₁ outcomes₀ outcomes₁ answer z P =
    record { judged = P.judged; log_is = P.log_is; outcomes_are = rw (eq-eqb b 0 z) P.outcomes_are }
