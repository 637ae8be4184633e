-- `sent_by` meets its contract.
use native.Mathlib.Omega.{arith}
use Prim.Native.Nat.{◌+◌, ◌*◌}
use mathlib.Core.Path.{sym, ◌∙◌}
use Rattle.std.proofs.lemmas.List.{take_rest}
use Rattle.column.proofs.ColumnLaws.{row_starts, sent_row, sent_no_round, sent_no_station}
use Rattle.column.proofs.sent_by.Goals as goal
use Rattle.column.proofs.sent_by.Goals.{else-i-line-via-then-i-line+else-has_round, else-i-line-via-else-i-line}

pub overflow_add-start : goal.overflow_add-start
overflow_add-start c =
    let there = sym c.has_round.ensures ∙ c.if-has_round.true in
    rw (c.from.ensures, c.from-then-has_round.ensures) (omega (arith, row_starts _ _ _ _ there c.if-i-line.true))

pub slice_bounds-row-count : goal.slice_bounds-row-count
slice_bounds-row-count c =
    let there = sym c.has_round.ensures ∙ c.if-has_round.true in
    rw (c.from.ensures, c.from-then-has_round.ensures) (row_starts _ _ _ _ there c.if-i-line.true)

pub slice_bounds-row-start : goal.slice_bounds-row-start
slice_bounds-row-start c =
    let there = sym c.has_round.ensures ∙ c.if-has_round.true in
    rw (c.from.ensures, c.from-then-has_round.ensures) (row_starts _ _ _ _ there c.if-i-line.true)

pub returns-then-has_round : goal.returns-then-has_round
returns-then-has_round c =
    let g = c.args in
    sent_row g.line.n g.bytes.now g.start g.i _ c.if-i-line.true (sym c.has_round.ensures ∙ c.if-has_round.true)
    (rw (c.from.ensures, c.from-then-has_round.ensures, take_rest g.bytes.now (g.start + g.i * g.line.n)) at c.row.ensures)

pub returns-else-i-line : goal.returns-else-i-line
returns-else-i-line c =
    let g = c.args in
    elim c.else-i-line.branch [
      | else-i-line-via-then-i-line+else-has_round w ↦ sent_no_round g.line.n g.bytes.now g.start g.i (sym w.has_round.ensures ∙ w.if-has_round.false)
      | else-i-line-via-else-i-line w ↦ sent_no_station g.line.n g.bytes.now g.start g.i (omega arith)
    ]
