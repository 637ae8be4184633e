-- `put::put_row` meets its contract.
use Rattle.std.proofs.Common.{◌∙◌, arith}
use Rattle.writer.proofs.PutLaws.{spoken_more, row_none, row_more, room_left}
use Rattle.writer.proofs.put.put_row.Goals as goal

pub loop-j-init : goal.loop-j-init
loop-j-init c = row_none _ _ _ _ _

pub put_byte-done-requires : goal.put_byte-done-requires
put_byte-done-requires c = room_left _ _ _ _ _ _ _ _ _ c.loop-j-test.true c.requires.1 c.loop-j.invariant

pub loop-j-preserved : goal.loop-j-preserved
loop-j-preserved c =
    let inv = c.loop-j.invariant in
    let p = c.put_byte-done.ensures in
    (omega (arith, p.0, inv.0, spoken_more c.args.row.now c.loop-j.j), p.1 ∙ rw (inv.0, inv.1) (row_more _ _ _ _ _ _))
