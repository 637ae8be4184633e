-- `advance` meets its contract: a row that may be taken is ready.
use Rattle.std.proofs.Common.{rules}
use Rattle.state.proofs.SoundLaws.{ready}
use Rattle.station.proofs.advance.Goals as goal

pub take-requires : goal.take-requires
take-requires c = ready _ _ (search rules)
