-- `rows::fill` meets its contract. The loop's invariant: k rows are drawn, and `from` is the sender of the next one.
use Rattle.std.proofs.Common.{◌≡◌, ◌*◌, ◌%◌}
use Rattle.generator.specs.Loops.{Drawn}
use Rattle.generator.proofs.rows.fill.Given as goal

abbrev pub invariant-loop-k : goal.invariant-loop-k
invariant-loop-k l = (l.from ≡ l.k % l.n) × Drawn l.n l.marks l.fn.state (l.k * l.n) l.initial.table l.table l.state
