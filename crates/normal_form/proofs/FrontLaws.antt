-- Laws of a sheet's first twelve bytes, taken as a header. Assumes nothing.
use Prim.Native.Nat.{ℕ, ◌+◌, ◌<◌}
use Rattle.refusal.specs.Cause.{no_cause}
use mathlib.Core.Path.{◌≡◌, ◌∙◌}
use mathlib.Core.Bool.{false, not}
use mathlib.Core.List.{List}
use native.Mathlib.Omega.{arith}
use lib.Dec.{eqb}
use lib.ListN.{length, take}
use lib.Seq.{get_or-take, length-take-le}
use borrow.Author.Tests.{eq-eqb}
use Rattle.refusal.specs.declared.cause.Cause.TheVariants.{SheetForm}
use Rattle.refusal.proofs.VerdictLaws.{refused_false}
use Rattle.layout.specs.Layout.{byte, header, records}
use Rattle.judgement.specs.Judgement.{header_length, verdict_to_8}
use Rattle.judgement.specs.Theorems.{WellFormed}
use Rattle.judgement.proofs.FormLaws.{form_accepts, form_sound}
use Rattle.writer.specs.Judgement.{header_and_table}
use Rattle.normal_form.proofs.SameLaws.{SameNumbers, opening_formed, same_header, same_opening}

module _ (s : List ℕ) where
  pub front_byte : (b : ℕ) → b < 12 → byte (take 12 s) b ≡ byte s b
  unfolding byte
  front_byte b l = get_or-take 12 s b 0 l

  pub front_same : SameNumbers (take 12 s) s
  front_same = record {
    before = λ b l. front_byte b (omega arith);
    behind = λ b l. front_byte (8 + b) (omega arith);
  }

  pub front_header : header (take 12 s) ≡ header s
  front_header = same_header (take 12 s) s front_same

  -- ---- of a sheet that causes 1, 15 and 2 to 8 let through

  module _ (l : ℕ) (v : verdict_to_8 s l ≡ no_cause) where
    pub form : WellFormed s (records s)
    form = form_sound s (opening_formed s l v)

    twelve : length (take 12 s) ≡ 12
    twelve = length-take-le 12 s (omega (arith, form.length_is))

    front_length : header_length (take 12 s) ≡ no_cause
    unfolding header_length
    front_length = refused_false SheetForm (let e : not (eqb (length (take 12 s)) 12) ≡ false = rw (eq-eqb (length (take 12 s)) 12 twelve) in e)

    -- they are let through too
    pub front_accepted : header_and_table (take 12 s) l ≡ no_cause
    unfolding header_and_table
    front_accepted =
        let alone : WellFormed (take 12 s) 0 = record { length_is = twelve; most = omega arith } in
        rw front_length (same_opening (take 12 s) s front_same l (form_accepts (take 12 s) 0 alone).0 (opening_formed s l v) ∙ v)
