-- Laws of what a program writes of a sheet, into a buffer that has room for it. Assumes nothing.
use Prim.Native.Nat.{ℕ, ◌≤◌}
use Rattle.std.specs.declared.result.Result.TheVariants.{Err}
use mathlib.Core.Path.{◌≡◌, ◌∙◌}
use mathlib.Core.List.{List, [], ◌∷◌}
use native.Mathlib.Omega.{arith}
use lib.ListN.{length}
use Rattle.refusal.specs.Cause.{number, no_cause}
use Rattle.refusal.specs.declared.cause.Cause.{Cause}
use Rattle.layout.specs.Chain.{Fate}
use Rattle.text.specs.Laid.{Puts}
use Rattle.text.proofs.LaidLaws.{puts_whole}
use Rattle.listing_lines.specs.Lines.{refused, num, verdict}
use Rattle.listing_lines.specs.Text.{text}
use Rattle.listing_lines.specs.Output.{Output}
use Rattle.listing_lines.proofs.LineLaws.{refusal_short}

module _ (s : List ℕ) (bytes : Fate s → List ℕ) (f : Fate s) (out₀ out₁ : List ℕ) (n : ℕ) where
  -- the bytes of an accepted sheet
  pub put_output : verdict s f ≡ no_cause → length (bytes f) ≤ length out₀ → Puts out₀ out₁ 0 (bytes f) n → Output s bytes out₁ n
  put_output v room p =
      let (inside, whole) = puts_whole p (omega (arith, room)) in record { fate = f; inside = inside; whole = whole ∙ rw v }

  -- the line of a refused one
  pub refused_output : (c : Cause) (k : ℕ) → verdict s f ≡ Err c → k ≡ number c → 12 ≤ length out₀
      → Puts out₀ out₁ 0 (text ((refused ∷ num k ∷ []) ∷ [])) n → Output s bytes out₁ n
  refused_output c k v q room p =
      let (inside, whole) = puts_whole p (omega (arith, refusal_short k, room)) in record { fate = f; inside = inside; whole = whole ∙ rw (v, ← q) }
