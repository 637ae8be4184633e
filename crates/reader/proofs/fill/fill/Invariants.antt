-- `fill::fill`: the ballots so far are in their places.
use Rattle.std.proofs.Common.{◌≡◌, length}
use Rattle.reader.specs.Loops.{laid}
use Rattle.reader.proofs.fill.fill.Given as goal

abbrev pub invariant-loop-placed : goal.invariant-loop-placed
invariant-loop-placed l = l.table ≡ laid l.kept l.start (length l.fn.table) l.placed-index
