-- `listed` meets its contract: its buffers are long enough for every sheet.
use Prim.Native.Nat.{ℕ, ◌≤◌}
use mathlib.Core.Path.{sym}
use native.Mathlib.Omega.{arith}
use lib.ListN.{length, replicate, length-replicate}
use lib.Seq.{length-take-le}
use Rattle.listing.proofs.Theorems.{listing_fits}
use Rattle.agree.proofs.listed.Goals as goal

-- the table and the log

enough : (b : ℕ) → 36864 ≤ length (replicate 36864 b)
enough b = omega (arith, length-replicate 36864 b)

pub returns : goal.returns
returns c =
    let l = listing_fits _ _ _ _ _ _ _ _ c.list.ensures (enough 255) (enough 255) (omega arith) in
    (l, (l.inside, sym (length-take-le _ _ l.inside)))
