-- `vembopu_ballot` meets its contract, by what `station::ballot` promises.
use Rattle.std.proofs.Common.{rules}
use Rattle.controller.proofs.WordLaws.{told_as}
use Rattle.controller.proofs.vembopu_ballot.Goals as goal

pub returns : goal.returns
returns c = told_as _ _ _ _ _ _ _ _ c.station.ensures _ c.ballot-told.ensures (search rules)
