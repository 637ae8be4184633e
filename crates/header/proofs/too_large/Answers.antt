-- `too_large` meets its contract. A byte is below 2 to the power 8.
use Rattle.std.proofs.Common.{arith}
use Rattle.std.proofs.lemmas.Grind.{common_steps}
use Rattle.line.specs.Marks.{mark_beyond}
use Rattle.line.proofs.MarksLaws.{beyond_shift, beyond_above}
use Rattle.header.proofs.too_large.Goals as goal

pub returns-then-bits-lt8 : goal.returns-then-bits-lt8
unfolding mark_beyond
returns-then-bits-lt8 c = rw (← c.bits-bits.ensures) (grind (arith, common_steps, beyond_shift))

pub returns-else-bits-lt8 : goal.returns-else-bits-lt8
unfolding mark_beyond
returns-else-bits-lt8 c =
    rw (← c.bits-bits.ensures, beyond_above c.bits-bits.result c.args.number 8 (omega arith) (omega arith)) (grind (arith, common_steps))
