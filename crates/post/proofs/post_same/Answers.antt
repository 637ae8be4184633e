-- `post_same` meets its contract.
use native.Mathlib.Omega.{arith}
use Prim.Native.Nat.{◌+◌, ◌-◌}
use Rattle.line.proofs.WritingLaws.{over_filled}
use Rattle.post.specs.Posted.{same}
use Rattle.post.proofs.post_same.Goals as goal

pub returns : goal.returns
unfolding same
returns c =
    over_filled _ _ c.args.at (c.args.at + c.args.n - c.args.at) c.args.n _ (omega arith) c.requires c.fill.ensures
