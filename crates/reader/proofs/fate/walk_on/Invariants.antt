-- `fate::walk_on`: i stands at the counter's position of the chain, and the first hit is before it.
use Rattle.reader.specs.Loops.{Hit}
use Rattle.reader.proofs.fate.walk_on.Given as goal

abbrev pub invariant-loop : goal.invariant-loop
invariant-loop l = Hit l.sheet l.counter l.i l.hit
