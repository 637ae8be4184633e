-- `next_bit` meets its contract.
use Rattle.listing.proofs.BitLaws.{bit_run_more, next_read}
use Rattle.listing.proofs.next_bit.Goals as goal

pub returns : goal.returns
returns c =
    let p = c.requires in
    bit_run_more _ _ _ _ _ _ p.0 p.1 _ _ _ (next_read _ _ _ _ _ _ p.0 p.1 _ _ c.read_bit.ensures) c.rehearse_bit.ensures
