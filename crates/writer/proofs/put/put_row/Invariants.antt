-- `put::put_row` meets its contract. The loop's invariant: the records of the first j bytes are in the sheet.
use Rattle.std.proofs.Common.{◌≡◌, ◌+◌}
use Rattle.writer.specs.Loops.{put_row_at, spoken_in}
use Rattle.writer.proofs.put.put_row.Given as goal

abbrev pub invariant-loop-j : goal.invariant-loop-j
invariant-loop-j l = (l.done ≡ l.m + spoken_in l.row l.j) × (l.sheet ≡ put_row_at l.initial.sheet l.m l.turn l.from l.row l.j)
