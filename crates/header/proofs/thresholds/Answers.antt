-- `thresholds` meets its contract.
use Rattle.header.specs.Header.{thresholds}
use Rattle.header.proofs.thresholds.Goals as goal

pub returns : goal.returns
unfolding thresholds
returns c = cc
