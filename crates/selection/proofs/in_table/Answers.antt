-- `in_table` meets its contract.
use native.Mathlib.Omega.{arith}
use mathlib.Core.Path.{refl, ◌∙◌}
use lib.ListN.{length}
use Rattle.line.proofs.CountLaws.{count_le}
use Rattle.selection.specs.Places.{to_write}
use Rattle.selection.proofs.CountingLaws.{before_next, before_end}
use Rattle.selection.proofs.in_table.Goals as goal

pub loop-round-init : goal.loop-round-init
loop-round-init c =
    let r = c.requires in
    rw (c.into_iter-round-iterator.ensures.into_iter_gives, c.chunks_exact-round-items.ensures.rest, c.chunks_exact-round-items.ensures.size, c.from-n.ensures)
    (record { all = omega arith; left = r.how_many; whole = r.whole }, refl)

pub overflow_add-k : goal.overflow_add-k
overflow_add-k c =
    let a = c.args in
    let (size, items, _) = c.in-Some.ensures.steps in
    let (g, whole) = c.loop-round.invariant in
    let next = before_next a.n a.marks c.requires.some _ _ _ g _ _ _ items.0 (items.1 ∙ whole) (rw c.from-n.ensures at c.in_round-k.ensures) in
    omega (arith, next.all, count_le (length a.table.now) (to_write a.n a.marks a.table.now))

pub loop-round-preserved : goal.loop-round-preserved
loop-round-preserved c =
    let a = c.args in
    let (size, items, _) = c.in-Some.ensures.steps in
    let (g, whole) = c.loop-round.invariant in
    (before_next a.n a.marks c.requires.some _ _ _ g _ _ _ items.0 (items.1 ∙ whole) (rw c.from-n.ensures at c.in_round-k.ensures), size ∙ whole)

pub returns : goal.returns
returns c =
    let a = c.args in
    let (g, whole) = c.loop-round.invariant in
    before_end a.n a.marks c.requires.some _ _ _ g (omega (arith, c.in-None.ensures.steps, whole))
