-- `run` meets its contract. The loop's invariant: b bits are rehearsed, and the state is the one that they leave.
use Rattle.seeded.specs.Loops.{BitsRun}
use Rattle.seeded.proofs.run.Given as goal

abbrev pub invariant-loop-b : goal.invariant-loop-b
invariant-loop-b l = BitsRun l.header l.seed l.b l.state l.table l.log l.outcomes
