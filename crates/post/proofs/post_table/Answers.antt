-- `post_table` meets its contract.
use native.Mathlib.Omega.{arith}
use Prim.Native.Nat.{◌+◌, ◌-◌}
use Rattle.post.proofs.PostLaws.{over_copied}
use Rattle.post.proofs.post_table.Goals as goal

pub returns : goal.returns
returns c =
    over_copied _ c.args.table.now _ c.args.at (c.args.at + c.args.n - c.args.at) c.args.n (omega arith) c.requires.0 c.requires.1
    c.copy_from_slice.ensures.after
