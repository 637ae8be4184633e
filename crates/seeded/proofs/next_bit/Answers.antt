-- `next_bit` meets its contract.
use Rattle.seeded.proofs.BitLaws.{bit_more}
use Rattle.seeded.proofs.next_bit.Goals as goal

pub returns : goal.returns
returns c =
    bit_more _ _ _ _ _ _ _ c.requires.0 c.requires.1 _ _ _ _ c.fill-left.ensures c.bit.ensures
