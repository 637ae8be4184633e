-- `number_within` meets its contract.
use Rattle.header.specs.Header.{number_within}
use Rattle.header.proofs.number_within.Goals as goal

pub returns : goal.returns
unfolding number_within
returns c = rw c.too_large.ensures at c.refused_if.ensures.answer_is
