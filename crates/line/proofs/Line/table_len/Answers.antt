-- `Line::table_len` meets its contract: the products fit, and `rounds` gives the first factor.
use native.Mathlib.Omega.{arith}
use native.Mathlib.Nat.{mul-le-mul}
use Rattle.line.proofs.LineLaws.{product_fits}
use Rattle.line.proofs.Line.table_len.Goals as goal

pub overflow_mul-result : goal.overflow_mul-result
overflow_mul-result c = product_fits {p = 771} {q = 255} (omega arith) (omega arith) tt

pub overflow_mul-result-2 : goal.overflow_mul-result-2
overflow_mul-result-2 c = product_fits {p = 196605} {q = 255} (mul-le-mul {n₂ = 771} {m₂ = 255} (omega arith) (omega arith)) (omega arith) tt
