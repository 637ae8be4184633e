-- `bit` meets its contract: bit 0 by the rehearsal itself, a higher one beside those below it.
use Rattle.std.proofs.Common.{◌≤◌, replicate, ◌∙◌, arith}
use lib.Seq.{length-take-le}
use Rattle.recipe.proofs.BitLaws.{first}
use Rattle.recipe.proofs.bit.Goals as goal

pub returns-then-b-eq0 : goal.returns-then-b-eq0
returns-then-b-eq0 c =
    first _ _ _ _ _ _ _ c.if-b-eq0.true (rw c.bit-value.ensures at c.rehearse.ensures)

pub bit_beside-requires : goal.bit_beside-requires
bit_beside-requires c =
    let m : c.shorter-m.result ≤ 129 = c.shorter-m.ensures.2 in
    (omega (arith, c.if-b-eq0.false), length-take-le _ (replicate 129 0) m ∙ c.shorter-m.ensures.0)

pub returns : goal.returns
returns c = rw c.bit-value.ensures at c.bit_beside.ensures
