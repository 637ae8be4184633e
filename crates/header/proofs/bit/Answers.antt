-- `bit` meets its contract.
use Rattle.header.specs.Header.{bit}
use Rattle.header.proofs.bit.Goals as goal

pub returns : goal.returns
unfolding bit
returns c = c.refused_if.ensures
