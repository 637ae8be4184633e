-- `post_all` meets its contract. The loop's invariant: the ballots of the senders before i are in the log.
use Prim.Native.Nat.{◌*◌, ◌≤◌, ◌-◌}
use mathlib.Core.Path.{◌≡◌}
use Rattle.line.specs.Writing.{over}
use Rattle.post.specs.Posted.{ballot_at}
use Rattle.post.proofs.post_all.Given as goal

abbrev pub invariant-loop-i : goal.invariant-loop-i
invariant-loop-i l =
    (l.i ≤ l.n) × (l.log ≡ over l.initial.log l.start (l.i * l.n) (ballot_at l.said l.table l.marks l.start l.n))

abbrev pub decreases-loop-i : goal.decreases-loop-i
decreases-loop-i l = l.n - l.i
