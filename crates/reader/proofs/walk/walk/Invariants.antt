-- `walk::walk`: i stands at position m of the chain, and the records before it pass.
use Rattle.reader.proofs.WalkLaws.{Going}
use Rattle.reader.proofs.walk.walk.Given as goal

abbrev pub invariant-loop-m : goal.invariant-loop-m
invariant-loop-m l = Going l.sheet l.m l.i l.seen l.kept
