-- `Line::tables_len` meets its contract: the product fits.
use native.Mathlib.Omega.{arith}
use native.Mathlib.Nat.{mul-le-mul}
use Rattle.line.proofs.LineLaws.{product_fits}
use Rattle.line.proofs.Line.tables_len.Goals as goal

pub overflow_mul-result : goal.overflow_mul-result
overflow_mul-result c =
    product_fits {p = 255} {q = 50134275} (omega arith)
    (rw c.table_len.ensures (mul-le-mul {n₂ = 196605} {m₂ = 255} (mul-le-mul {n₂ = 771} {m₂ = 255} (omega arith) (omega arith)) (omega arith)))
    tt
