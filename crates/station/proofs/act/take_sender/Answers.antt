-- `act::take_sender` meets its contract: the sender's is the one ballot that is expected.
use Rattle.broadcast.specs.Station.{at}
use Rattle.station.proofs.TakeLaws.{sender_taken}
use Rattle.station.proofs.act.take_sender.Goals as goal

pub returns : goal.returns
unfolding at
returns c =
    sender_taken c.args.s c.args.row.now _ c.requires _ _ _
    (rw c.from.ensures at c.read_sender-heard.ensures) c.x.ensures c.garbled.ensures c.next.ensures
