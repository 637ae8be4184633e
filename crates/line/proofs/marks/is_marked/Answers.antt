-- `marks::is_marked` meets its contract. A number of 32 bits has no bit above them.
use mathlib.Core.Path.{refl, sym, ◌∙◌}
use native.Mathlib.Omega.{arith}
use borrow.Author.Tests.{le-ltb}
use Rattle.line.specs.Marks.{marked}
use Rattle.line.proofs.MarksLaws.{marked_above_width}
use Rattle.line.proofs.marks.is_marked.Goals as goal

pub returns-then-k-lt32 : goal.returns-then-k-lt32
unfolding marked
returns-then-k-lt32 c = refl

pub returns-else-k-lt32 : goal.returns-else-k-lt32
returns-else-k-lt32 c =
    le-ltb _ _ c.if-k-lt32.false ∙ sym (marked_above_width c.args.marks c.args.k 32 (omega arith) (omega arith))
