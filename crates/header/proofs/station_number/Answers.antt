-- `station_number` meets its contract.
use Rattle.header.specs.Header.{station_number}
use Rattle.refusal.proofs.VerdictLaws.{judged}
use Rattle.header.proofs.station_number.Goals as goal

pub returns : goal.returns
unfolding station_number
returns c = judged (cc)
