-- `exact_length` meets its contract.
use Rattle.header.specs.Header.{exact_length}
use Rattle.header.proofs.exact_length.Goals as goal

pub returns : goal.returns
unfolding exact_length
returns c = c.refused_if.ensures
