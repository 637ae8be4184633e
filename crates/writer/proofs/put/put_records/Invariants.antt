-- `put::put_records` meets its contract. The loops' invariants: the records of the bits and rounds so far are in the sheet.
use Rattle.std.proofs.Common.{◌≡◌, ◌+◌, ◌*◌}
use Rattle.line.specs.Count.{count}
use Rattle.line.specs.Line.{table_length, place}
use Rattle.selection.specs.Places.{to_write}
use Rattle.writer.specs.Loops.{Goes_on}
use Rattle.writer.proofs.put.put_records.Given as goal

abbrev pub invariant-loop-bit : goal.invariant-loop-bit
invariant-loop-bit l =
    (l.done ≡ count (l.bit * table_length l.h.line.n l.h.line.t) (to_write l.h.line.n l.h.marks l.table)) × Goes_on l.h l.table l.fn.sheet 0 l.sheet l.done

abbrev pub invariant-loop-round : goal.invariant-loop-round
invariant-loop-round l =
    (l.done ≡ count (l.bit * table_length l.h.line.n l.h.line.t + place l.h.line.n l.round 0 0) (to_write l.h.line.n l.h.marks l.table)) × Goes_on l.h l.table l.fn.sheet 0 l.sheet l.done
