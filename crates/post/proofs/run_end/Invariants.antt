-- `run_end` meets its contract. The loop's invariant: the stations up to k say the same.
use Rattle.post.specs.Posted.{Alike}
use Rattle.post.proofs.run_end.Given as goal

abbrev pub invariant-loop-k : goal.invariant-loop-k
invariant-loop-k l = Alike l.said l.marks l.i l.k
