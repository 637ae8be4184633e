-- `write` meets its contract: the output has room for every sheet, and nothing is refused.
use mathlib.Core.Path.{sym}
use lib.Seq.{length-take-le}
use Rattle.rewrite.proofs.OutputLaws.{not_refused, room, stands}
use Rattle.rewrite.proofs.write.Goals as goal

pub slice_bounds-write-end : goal.slice_bounds-write-end
slice_bounds-write-end c = room _ _ c.needed.ensures _ c.in-Ok.is _ c.requires.1

pub slice_bounds-write-end-in-Ok : goal.slice_bounds-write-end-in-Ok
slice_bounds-write-end-in-Ok c = sym (length-take-le _ c.args.out.now (room _ _ c.needed.ensures _ c.in-Ok.is _ c.requires.1))

pub returns-in-Ok : goal.returns-in-Ok
returns-in-Ok c = stands _ _ c.needed.ensures _ c.in-Ok.is _ _ c.requires.1 c.write.ensures

pub returns-in-Err : goal.returns-in-Err
returns-in-Err c = not_refused _ _ c.needed.ensures _ c.requires.0 c.in-Err.is
