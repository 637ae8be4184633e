-- `count` meets its contract.
use native.Mathlib.Omega.{arith}
use Prim.Native.Nat.{◌+◌, ◌*◌}
use mathlib.Core.Path.{◌≡◌, sym, ◌∙◌}
use Rattle.std.proofs.lemmas.List.{take_rest}
use Rattle.line.proofs.LineLaws.{round_means}
use Rattle.column.specs.Column.{each_of}
use Rattle.column.proofs.ColumnLaws.{row_starts, counted_none, counted_most, counted_turn, count_all, count_not}
use Rattle.column.proofs.count.Goals as goal

pub loop-i-init : goal.loop-i-init
loop-i-init c = counted_none _ _ _ _

pub overflow_add-start : goal.overflow_add-start
overflow_add-start c =
    let there = rw (← c.from-n.ensures) at (sym c.has_round.ensures ∙ c.if-has_round.true) in
    omega (arith, row_starts _ _ _ c.loop-i.i there (omega arith))

pub slice_bounds-row-count : goal.slice_bounds-row-count
slice_bounds-row-count c =
    let there = rw (← c.from-n.ensures) at (sym c.has_round.ensures ∙ c.if-has_round.true) in
    row_starts _ _ _ c.loop-i.i there (omega arith)

pub slice_bounds-row-start : goal.slice_bounds-row-start
slice_bounds-row-start c =
    let there = rw (← c.from-n.ensures) at (sym c.has_round.ensures ∙ c.if-has_round.true) in
    row_starts _ _ _ c.loop-i.i there (omega arith)

pub add_row-counts-requires : goal.add_row-counts-requires
add_row-counts-requires c =
    let there = rw (← c.from-n.ensures) at (sym c.has_round.ensures ∙ c.if-has_round.true) in
    counted_most _ _ _ _ 254 c.loop-i.i _ (omega (arith, (round_means _ _ _ there).0)) c.loop-i.invariant

pub loop-i-preserved : goal.loop-i-preserved
loop-i-preserved c =
    counted_turn _ _ _ _ c.loop-i.i c.loop-i.counts _ c.row.result c.loop-i.invariant (rw (take_rest c.args.bytes.now (c.args.start + c.loop-i.i * c.from-n.result)) at c.row.ensures) c.add_row-counts.ensures

pub returns-after-loop-i : goal.returns-after-loop-i
returns-after-loop-i c =
    let g = c.args in
    let e : c.loop-i.i ≡ g.line.n = omega arith in
    count_all g.line.n g.bytes.now _ g.start (each_of g.wanted.now) (sym c.has_round.ensures ∙ c.if-has_round.true) (rw (e, c.from-n.ensures) at c.loop-i.invariant)

pub returns-else-has_round : goal.returns-else-has_round
returns-else-has_round c =
    let g = c.args in
    count_not g.line.n g.bytes.now g.start (each_of g.wanted.now) (sym c.has_round.ensures ∙ c.if-has_round.false)
