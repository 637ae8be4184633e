-- `width::bit` meets its contract. A byte has no bit from 8 on.
use mathlib.Core.Path.{refl, sym}
use native.Mathlib.Omega.{arith}
use Rattle.line.specs.Width.{bit_of}
use Rattle.line.proofs.WidthLaws.{bit_above}
use Rattle.line.proofs.width.bit.Goals as goal

pub returns-then-b-lt8 : goal.returns-then-b-lt8
unfolding bit_of
returns-then-b-lt8 c = refl

pub returns-else-b-lt8 : goal.returns-else-b-lt8
returns-else-b-lt8 c = sym (bit_above c.args.number c.args.b 8 (omega arith) (omega arith))
