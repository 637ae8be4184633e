-- The loop's invariant: the first i senders are compared.
use Rattle.std.proofs.Common.{◌≡◌, ◌≤◌, length}
use Rattle.line.specs.Writing.{Each}
use Rattle.compare.specs.Compare.{unless_other}
use Rattle.compare.proofs.kept_on.Given as goal

abbrev pub invariant-loop-i : goal.invariant-loop-i
invariant-loop-i l = (l.line.n ≤ 32) × (length l.next ≡ 32) × Each l.i l.next (unless_other l.bytes l.start l.line.n l.said l.kept)
