-- `station_count` meets its contract.
use Rattle.header.specs.Header.{station_count}
use Rattle.header.proofs.station_count.Goals as goal

pub returns : goal.returns
unfolding station_count
returns c = cc
