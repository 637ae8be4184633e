-- `put::put_round` meets its contract. The loop's invariant: station i is marked, or none is left, and the records of those before it are in the sheet.
use Rattle.std.proofs.Common.{◌≡◌, ◌+◌, ◌-◌, ◌*◌, ◌≤◌, ◌<◌, true}
use Rattle.line.specs.Count.{count}
use Rattle.line.specs.Marks.{marked}
use Rattle.selection.specs.Places.{to_write}
use Rattle.writer.specs.Loops.{start_of, Goes_on}
use Rattle.writer.proofs.put.put_round.Given as goal

abbrev pub invariant-loop-i : goal.invariant-loop-i
invariant-loop-i l =
    (l.i ≤ l.h.line.n) × (l.i < l.h.line.n → marked l.h.marks l.i ≡ true)
    × (l.done ≡ count (start_of l.h l.turn + l.i * l.h.line.n) (to_write l.h.line.n l.h.marks l.table)) × Goes_on l.h l.table l.initial.sheet l.m l.sheet l.done

abbrev pub decreases-loop-i : goal.decreases-loop-i
decreases-loop-i l = l.h.line.n - l.i
