-- `Line::has_round` meets its contract.
use Prim.Native.Nat.{◌+◌, ◌*◌, ◌<◌}
use mathlib.Core.Bool.{false}
use Rattle.line.specs.Line.{has_round}
use native.Mathlib.Omega.{arith}
use mathlib.Core.Path.{◌≡◌}
use Rattle.std.proofs.lemmas.Grind.{common_steps}
use Rattle.line.proofs.LineLaws.{product_fits, round_large, round_short, round_left}
use Rattle.line.proofs.Line.has_round.Goals as goal

pub overflow_mul-result : goal.overflow_mul-result
overflow_mul-result c = product_fits {p = 32} {q = 32} (omega arith) (omega arith) tt

pub returns-then-start-len : goal.returns-then-start-len
returns-then-start-len c = let g = c.args in rw c.from-n.ensures (round_left g.self.n g.start g.len (omega arith) (omega arith))

pub returns-else-start-len : goal.returns-else-start-len
returns-else-start-len c =
    let g = c.args in
    let large : 32 < g.self.n → has_round g.self.n g.start g.len ≡ false = round_large g.self.n g.start g.len in
    let short : g.len < g.start + g.self.n * g.self.n → has_round g.self.n g.start g.len ≡ false = round_short g.self.n g.start g.len in
    grind (arith, common_steps)
