-- `act::tell` meets its contract.
use Rattle.station.proofs.TakeLaws.{part_told}
use Rattle.station.proofs.act.tell.Goals as goal

pub returns : goal.returns
returns c =
    part_told c.args.s _ _ c.part_of-part.ensures c.told.ensures
