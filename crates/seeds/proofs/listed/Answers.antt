-- `listed` lends so much of the table and of the log as the sheet wants, or all of them.
use native.Mathlib.Omega.{arith}
use Prim.Native.Nat.{ℕ, ◌≤◌, min}
use mathlib.Core.Path.{◌≡◌, sym, ap, ◌∙◌}
use mathlib.Core.List.{List}
use lib.ListN.{length, take, replicate, length-replicate}
use lib.Seq.{length-take-le}
use Rattle.seeds.proofs.listed.Goals as goal

abbrev filled : List ℕ
filled = replicate 36864 255

-- what is lent of the table and of the log is as long as is asked for
lent : (r : ℕ) → r ≤ 36864 → length (take r filled) ≡ r
lent r h = length-take-le r filled (omega (arith, length-replicate {A = ℕ} 36864 255))

pub list-requires : goal.list-requires
list-requires c =
    let long = lent c.shorter-len.result (omega arith) in
    (long ∙ c.shorter-len.ensures.0 ∙ ap (λ (k : ℕ). min k 36864) c.table_len.ensures, long ∙ sym long, omega arith)
