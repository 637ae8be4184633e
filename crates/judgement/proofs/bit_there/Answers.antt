-- `bit_there` meets its contract.
use Rattle.judgement.specs.Judgement.{bit_there}
use Rattle.judgement.proofs.bit_there.Goals as goal

pub returns : goal.returns
unfolding bit_there
returns c = rw (c.refused_if.ensures.answer_is, c.bits.ensures, c.header_of-h.ensures)
