-- `rewritten` lends so much of the tables as the sheet wants, or all of them.
use Prim.Native.Nat.{ℕ, ◌≤◌, min}
use mathlib.Core.Path.{sym, ap, ◌∙◌}
use native.Mathlib.Omega.{arith}
use lib.ListN.{length, replicate, length-replicate}
use lib.Seq.{length-take-le}
use Rattle.rewrite.proofs.rewritten.Goals as goal

-- what is lent of the tables is within them
enough : (b r : ℕ) → r ≤ 294912 → r ≤ length (replicate 294912 b)
enough b r h = omega (arith, length-replicate 294912 b)

pub slice_bounds-rewrite-end : goal.slice_bounds-rewrite-end
slice_bounds-rewrite-end c = sym (length-take-le _ _ (enough 255 _ (omega arith)))

pub rewrite-requires : goal.rewrite-requires
rewrite-requires c =
    (length-take-le _ _ (enough 255 _ (omega arith)) ∙ c.shorter-len.ensures.0 ∙ ap (λ (k : ℕ). min k 294912) c.tables_len.ensures, omega arith)
