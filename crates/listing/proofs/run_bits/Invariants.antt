-- `run_bits` meets its contract. The loop's invariant: b bits are rehearsed.
use Rattle.listing.specs.Loops.{BitsRun}
use Rattle.listing.proofs.run_bits.Given as goal

abbrev pub invariant-loop-b : goal.invariant-loop-b
invariant-loop-b l = BitsRun l.sheet l.header l.b l.table l.log l.outcomes
