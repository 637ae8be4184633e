-- `next` meets its contract: the code's exclusive-ors and shifts are the definition's.
use mathlib.Core.Path.{refl}
use Rattle.xorshift.specs.State.{shifted_left, shifted_right, xor_left, xor_right, next}
use Rattle.xorshift.proofs.next.Goals as goal

pub returns : goal.returns
unfolding next xor_left xor_right shifted_left shifted_right
returns c = refl
