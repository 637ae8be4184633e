-- `Line::exchange_len` meets its contract: the product of bytes fits.
use native.Mathlib.Omega.{arith}
use Rattle.line.proofs.LineLaws.{product_fits}
use Rattle.line.proofs.Line.exchange_len.Goals as goal

pub overflow_mul-result-2 : goal.overflow_mul-result-2
overflow_mul-result-2 c = product_fits {p = 510} {q = 255} (omega arith) (omega arith) tt
