-- `write` meets its contract. The loop's invariant: the bytes so far are the outcomes'.
use Rattle.line.specs.Writing.{Each}
use Rattle.outcome.specs.Outcome.{outcome_at}
use Rattle.outcome.proofs.write.Given as goal

abbrev pub invariant-loop-k : goal.invariant-loop-k
invariant-loop-k l = Each l.k l.byte-items (outcome_at l.value l.grade l.garbled l.marks)
