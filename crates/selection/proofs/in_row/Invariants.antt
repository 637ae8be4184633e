-- `in_row`: k of the bytes so far are not silence.
use Rattle.std.proofs.Common.{◌≡◌, ◌≤◌}
use Rattle.line.specs.Count.{count}
use Rattle.selection.specs.Loops.{speaks}
use Rattle.selection.proofs.in_row.Given as goal

abbrev pub invariant-loop-b : goal.invariant-loop-b
invariant-loop-b l = (l.k ≡ count l.b-index (speaks l.row)) × (l.k ≤ l.b-index)
