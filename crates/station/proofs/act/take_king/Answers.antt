-- `act::take_king` meets its contract: the king's is the one ballot that is expected.
use native.Mathlib.Omega.{arith}
use Rattle.broadcast.specs.Station.{at}
use Rattle.station.proofs.TakeLaws.{king_taken}
use Rattle.station.proofs.act.take_king.Goals as goal

pub bounds-row-from : goal.bounds-row-from
bounds-row-from c = let p = c.requires in omega (arith, p.0.whole, p.1)

pub returns : goal.returns
unfolding at
returns c =
    king_taken c.args.s c.args.row.now _ c.requires.0 c.args.king c.requires.1 _ _ _
    (rw c.from.ensures at c.read_king-heard.ensures) c.obey-x.ensures c.garbled.ensures c.next.ensures
