-- How many bytes an answer tells of. Assumes nothing.
use Prim.Native.Nat.{ℕ, zero, suc, ◌+◌, ◌≤◌, ◌<◌}
use mathlib.Core.Path.{◌≡◌, sym}
use mathlib.Core.List.{List}
use native.Mathlib.Omega.{arith}
use lib.ListN.{length}
use lib.Seq.{length-take-le}
use Rattle.std.specs.Prelude.{Result, Ok, Err}
use Rattle.std.specs.Counts.{IsPrefixLen}
use Rattle.std.specs.declared.io.Error.{Error}
use Rattle.std.specs.declared.ops.ControlFlow.TheVariants.{Continue, Break}
use Rattle.input.specs.Reading.{Within, following}

-- what is no more than the buffer's length counts bytes of it
pub counts : (n : ℕ) (buffer : List ℕ) → n ≤ length buffer → IsPrefixLen n buffer
counts n buffer h = (h, sym (length-take-le n buffer h))

-- ---- after a read

module _ (done : ℕ) (part : List ℕ) where
  -- to read on is with more bytes there, all of them of the buffer
  pub on_means : (got : Result ℕ Error) (there : ℕ) → following done got ≡ Continue there → Within got part → (done < there) × (there ≤ done + length part)
  unfolding following
  on_means (Ok zero) there e w = let z : ◌≡◌ {A = ℕ} 0 1 = cc in absurd (omega arith)
  on_means (Ok (suc k)) there e w = let q : there ≡ done + suc k = cc in (omega arith, omega (arith, w.0))
  on_means (Err why) there e w = let z : ◌≡◌ {A = ℕ} 0 1 = cc in absurd (omega arith)

  -- an end tells of the bytes that were there, or that a read failed
  pub end_means : (got answer : Result ℕ Error) (buffer : List ℕ) → following done got ≡ Break answer → done ≤ length buffer → Within answer buffer
  unfolding following
  end_means (Ok zero) answer buffer e h = let q : answer ≡ Ok done = cc in rw q (counts done buffer h)
  end_means (Ok (suc k)) answer buffer e h = let z : ◌≡◌ {A = ℕ} 0 1 = cc in absurd (omega arith)
  end_means (Err why) answer buffer e h = let q : answer ≡ Err why = cc in rw q tt
