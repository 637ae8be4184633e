-- `with_bit` meets its contract.
use Rattle.recipe.proofs.GatherLaws.{bit_in_byte}
use Rattle.recipe.proofs.gather.with_bit.Goals as goal

pub returns : goal.returns
returns c = bit_in_byte c.args.b c.args.d _ _ c.ranges.m.fits (rw c.from.ensures at c.unbounded_shl.ensures)
