-- `width` meets its contract.
use Rattle.header.specs.Header.{width}
use Rattle.header.proofs.width.Goals as goal

pub returns : goal.returns
unfolding width
returns c = c.refused_if.ensures.answer_is
