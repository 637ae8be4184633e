-- `put::Turn::start` meets its contract.
use Rattle.writer.proofs.RecordLaws.{start_there}
use Rattle.writer.proofs.put.Turn.start.Goals as goal

pub returns : goal.returns
returns c = rw (c.from.ensures, c.table_len.ensures, c.from-2.ensures, c.from-n.ensures) (start_there _ _ _ _)
