-- To read on is with more bytes there, all of them of the buffer; an end tells of those that were there.
use Rattle.std.proofs.Common.{sym, arith}
use Rattle.input.proofs.ReadingLaws.{on_means, end_means}
use Rattle.input.proofs.whole.Goals as goal

pub loop-done-smaller : goal.loop-done-smaller
loop-done-smaller g c =
    let m = on_means c.loop-done.done c.read-got.new.buf c.read-got.result c.in-Continue.there (sym c.in-Continue.ensures) c.read-got.ensures.bound in
    omega (arith, m)

pub loop-done-preserved : goal.loop-done-preserved
loop-done-preserved g c =
    let m = on_means c.loop-done.done c.read-got.new.buf c.read-got.result c.in-Continue.there (sym c.in-Continue.ensures) c.read-got.ensures.bound in
    omega (arith, m)

pub returns-in-Break : goal.returns-in-Break
returns-in-Break g c = end_means c.loop-done.done c.read-got.new.buf c.read-got.result _ _ (sym c.in-Break.ensures) (omega arith)
