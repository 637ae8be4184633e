-- `mark_beyond` meets its contract. The marks are below 2 to the power 32.
use Rattle.std.proofs.Common.{arith}
use Rattle.std.proofs.lemmas.Grind.{common_steps}
use Rattle.line.proofs.MarksLaws.{beyond_shift, beyond_above}
use Rattle.header.proofs.mark_beyond.Goals as goal

pub returns-then-n-lt32 : goal.returns-then-n-lt32
returns-then-n-lt32 c = grind (arith, common_steps, beyond_shift)

pub returns-else-n-lt32 : goal.returns-else-n-lt32
returns-else-n-lt32 c = rw (beyond_above c.args.n c.args.marks 32 (omega arith) (omega arith)) (grind (arith, common_steps))
