-- `ballot` meets its contract: a station that may tell is sound.
use Rattle.std.proofs.Common.{rules}
use Rattle.state.proofs.SoundLaws.{telling_sound}
use Rattle.station.proofs.ballot.Goals as goal

pub tell-requires : goal.tell-requires
tell-requires c = (telling_sound _ (search rules)).0
