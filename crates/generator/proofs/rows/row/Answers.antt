-- `row` meets its contract.
use Rattle.std.proofs.Common.{◌≡◌, length, refl, arith}
use Rattle.line.proofs.WritingLaws.{each_none, each_turn}
use Rattle.generator.proofs.RowLaws.{row_is_drawn, row_is_silent}
use Rattle.generator.proofs.rows.row.Goals as goal

pub returns-then-bad : goal.returns-then-bad
returns-then-bad c = row_is_drawn _ _ _ _ _ c.if-bad.true c.drawn_row.ensures

pub loop-byte-init : goal.loop-byte-init
loop-byte-init c = each_none _ _

pub loop-byte-preserved : goal.loop-byte-preserved
loop-byte-preserved c = each_turn _ _ _ _ (omega arith) c.loop-byte.invariant refl

pub returns : goal.returns
returns c =
    let all : c.loop-byte.byte-index ≡ length c.args.row.now = omega arith in
    row_is_silent _ _ _ _ c.if-bad.false (rw all at c.loop-byte.invariant)
