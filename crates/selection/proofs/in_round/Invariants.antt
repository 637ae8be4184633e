-- `in_round`: station i is marked, or none is left, and k bytes of those before it are to be written.
use Rattle.std.proofs.Common.{◌≡◌, ◌*◌, ◌-◌, ◌<◌, ◌≤◌, true}
use Rattle.line.specs.Count.{count}
use Rattle.line.specs.Marks.{marked}
use Rattle.selection.specs.Places.{to_write}
use Rattle.selection.proofs.in_round.Given as goal

abbrev pub invariant-loop-i : goal.invariant-loop-i
invariant-loop-i l = (l.i ≤ l.n) × (l.i < l.n → marked l.marks l.i ≡ true) × (l.k ≡ count (l.i * l.n) (to_write l.n l.marks l.round))

abbrev pub decreases-loop-i : goal.decreases-loop-i
decreases-loop-i l = l.n - l.i
