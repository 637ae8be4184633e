-- `add` meets its contract. The loop's invariant: the first i stations' bytes are there.
use Rattle.std.proofs.Common.{◌≡◌, ◌*◌}
use Rattle.line.specs.Line.{outcome_size}
use Rattle.line.specs.Writing.{over}
use Rattle.recipe.specs.Gathered.{added_byte}
use Rattle.recipe.proofs.gather.add.Given as goal

abbrev pub invariant-loop-i : goal.invariant-loop-i
invariant-loop-i l = l.outcomes ≡ over l.initial.outcomes 0 (outcome_size * l.i) (added_byte l.b l.part l.initial.outcomes)
