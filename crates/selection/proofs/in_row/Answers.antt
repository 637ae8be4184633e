-- `in_row` meets its contract: one byte more is silence or is counted.
use Rattle.std.proofs.lemmas.Bool.Decides.{nat_tests}
use native.Mathlib.Omega.{arith}
use mathlib.Core.Path.{sym}
use Rattle.line.proofs.CountLaws.{count_zero, count_next}
use Rattle.selection.specs.Loops.{speaks}
use Rattle.selection.proofs.in_row.Goals as goal

pub loop-b-init : goal.loop-b-init
loop-b-init c = (sym (count_zero _), omega arith)

pub loop-b-preserved : goal.loop-b-preserved
unfolding speaks
loop-b-preserved c =
    let next = count_next c.loop-b.b-index (speaks c.args.row.now) in
    grind (arith, nat_tests)
