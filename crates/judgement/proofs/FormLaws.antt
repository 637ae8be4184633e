-- Laws of the sheet's form: cause 1 lets through exactly the sheets of document 01's form. Assumes nothing.
use Prim.Native.Nat.{ℕ, ◌+◌, ◌*◌}
use Rattle.refusal.specs.Cause.{no_cause}
use mathlib.Core.Path.{◌≡◌}
use mathlib.Core.Bool.{not}
use mathlib.Core.List.{List}
use native.Mathlib.Omega.{arith}
use lib.Dec.{ltb, eqb}
use lib.ListN.{length}
use borrow.Author.Tests.{eqb-true, eq-eqb, ltb-false, le-ltb, not-false}
use Rattle.refusal.proofs.VerdictLaws.{refused_false, accepted_false, neither}
use Rattle.layout.specs.Layout.{most_records, records}
use Rattle.judgement.specs.Judgement.{ill_formed, sheet_form}
use Rattle.judgement.specs.Theorems.{WellFormed}

module _ (s : List ℕ) where
  -- 12 + 8k bytes hold k records
  pub records_are : (k : ℕ) → length s ≡ 12 + 8 * k → records s ≡ k
  unfolding records
  records_are k e = omega arith

  -- a well_formed sheet is accepted
  pub form_accepts : (k : ℕ) → WellFormed s k → (sheet_form s ≡ no_cause) × (records s ≡ k)
  unfolding sheet_form ill_formed
  form_accepts k w =
      let r = records_are k w.length_is in
      let a = eq-eqb (length s) (12 + 8 * k) w.length_is in
      (refused_false _ (rw (r, a, le-ltb most_records k w.most)), r)

  -- and an accepted one is well formed
  pub form_sound : sheet_form s ≡ no_cause → WellFormed s (records s)
  unfolding sheet_form ill_formed
  form_sound e =
      let whole = eqb (length s) (12 + 8 * records s) in
      let many = ltb most_records (records s) in
      let (a, b) = neither (not whole) many (accepted_false _ _ e) in
      record {
        length_is = eqb-true (length s) (12 + 8 * records s) (not-false whole a);
        most = ltb-false most_records (records s) b;
      }
