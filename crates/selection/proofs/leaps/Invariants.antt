-- `leaps`: the places from i on are found.
use Rattle.std.proofs.Common.{◌≡◌, length}
use Rattle.selection.proofs.LeapLaws.{From}
use Rattle.selection.proofs.leaps.Given as goal

abbrev pub invariant-loop-i : goal.invariant-loop-i
invariant-loop-i l = (length l.to ≡ 33) × From l.marks l.n l.i l.to
