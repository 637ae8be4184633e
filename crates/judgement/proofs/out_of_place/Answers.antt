-- `out_of_place` meets its contract.
use Rattle.std.proofs.Common.{rules}
use native.Mathlib.Omega.{arith}
use Prim.Native.Nat.{◌+◌, ◌*◌}
use mathlib.Core.Path.{◌≡◌}
use Rattle.judgement.specs.Numbers.{out_of_place}
use Rattle.judgement.proofs.RangeLaws.{two_bytes}
use Rattle.judgement.proofs.out_of_place.Goals as goal

pub returns-then-outside-3 : goal.returns-then-outside-3
unfolding out_of_place
returns-then-outside-3 c = search rules

pub returns-else-outside-3 : goal.returns-else-outside-3
unfolding out_of_place
returns-else-outside-3 c =
    let a = c.args in
    let r = a.«record» in
    let e : c.from_le_bytes.result ≡ r.bit + 256 * r.rest = omega arith in
    let t = two_bytes a.bits r.bit r.rest (omega arith) in
    rw (c.from.ensures, e, t) (search rules)
