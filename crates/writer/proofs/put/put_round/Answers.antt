-- `put::put_round` meets its contract.
use Rattle.std.proofs.Common.{◌≡◌, ◌+◌, ◌*◌, arith}
use Rattle.selection.proofs.LeapLaws.{leaps_first}
use Rattle.writer.specs.Loops.{start_of}
use Rattle.writer.proofs.RecordLaws.{leapt_first, leapt_on, row_small, row_inside, row_room, row_put, ready_on}
use Rattle.writer.proofs.put.put_round.Goals as goal

pub loop-i-init : goal.loop-i-init
loop-i-init c =
    let a = c.args in
    let f = leaps_first a.h.marks a.h.line.n _ c.requires.2 c.requires.0.few 0 (omega arith) in
    (f.high, f.there, leapt_first a.h a.table.now a.turn c.requires.1 _ a.m f c.requires.0.before, λ z e. e)

pub overflow_add-at : goal.overflow_add-at
overflow_add-at c =
    let a = c.args in
    let at : c.start-start.result + c.from.result * c.from-n.result ≡ start_of a.h a.turn + c.loop-i.i * a.h.line.n = rw (c.start-start.ensures, c.from.ensures, c.from-n.ensures) in
    omega (arith, at, row_small a.h a.table.now a.turn c.requires.1 c.loop-i.i (omega arith) _ _ c.requires.0)

pub overflow_add-at-in-loop-i : goal.overflow_add-at-in-loop-i
overflow_add-at-in-loop-i c =
    let a = c.args in
    let at : c.start-start.result + c.from.result * c.from-n.result ≡ start_of a.h a.turn + c.loop-i.i * a.h.line.n = rw (c.start-start.ensures, c.from.ensures, c.from-n.ensures) in
    omega (arith, at, c.from-n.ensures, row_small a.h a.table.now a.turn c.requires.1 c.loop-i.i (omega arith) _ _ c.requires.0)

pub slice_bounds-put_row-end : goal.slice_bounds-put_row-end
slice_bounds-put_row-end c =
    let a = c.args in
    let at : c.start-start.result + c.from.result * c.from-n.result ≡ start_of a.h a.turn + c.loop-i.i * a.h.line.n = rw (c.start-start.ensures, c.from.ensures, c.from-n.ensures) in
    omega (arith, at, c.from-n.ensures, c.requires.0.whole, row_inside a.h a.table.now a.turn c.requires.1 c.loop-i.i (omega arith))

pub put_row-done-requires : goal.put_row-done-requires
put_row-done-requires c =
    let a = c.args in
    let l = c.loop-i in
    let at : c.start-start.result + c.from.result * c.from-n.result ≡ start_of a.h a.turn + l.i * a.h.line.n = rw (c.start-start.ensures, c.from.ensures, c.from-n.ensures) in
    row_room a.h a.table.now a.turn c.requires.1 l.i c.loop-i-test.true (l.invariant.1 c.loop-i-test.true) _ _ at (omega (arith, c.from-n.ensures)) l.sheet l.done
    (ready_on _ _ _ _ _ _ _ _ c.requires.0 l.auto.sheet l.invariant.2)

pub loop-i-smaller : goal.loop-i-smaller
loop-i-smaller c =
    let a = c.args in
    let f = leaps_first a.h.marks a.h.line.n _ c.requires.2 c.requires.0.few (c.loop-i.i + 1) (omega arith) in
    rw c.from-in-loop-i.ensures (omega (arith, f.low))

pub loop-i-preserved : goal.loop-i-preserved
loop-i-preserved c =
    let a = c.args in
    let l = c.loop-i in
    let at : c.start-start.result + c.from.result * c.from-n.result ≡ start_of a.h a.turn + l.i * a.h.line.n = rw (c.start-start.ensures, c.from.ensures, c.from-n.ensures) in
    let f = leaps_first a.h.marks a.h.line.n _ c.requires.2 c.requires.0.few (l.i + 1) (omega arith) in
    let p = row_put a.h a.table.now a.turn c.requires.1 l.i c.loop-i-test.true (l.invariant.1 c.loop-i-test.true) _ _ at (omega (arith, c.from-n.ensures)) l.sheet l.done
    (ready_on _ _ _ _ _ _ _ _ c.requires.0 l.auto.sheet l.invariant.2) _ _ c.put_row-done.ensures in
    rw c.from-in-loop-i.ensures (f.high, f.there, leapt_on a.h a.table.now a.turn c.requires.1 l.i _ _ f p.0, λ z q. p.1 z (l.invariant.3 z q))
