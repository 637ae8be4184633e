-- The loop's invariant: the highest bytes of the first i senders.
use Rattle.line.specs.Writing.{Each}
use Rattle.garbled.proofs.FoundLaws.{highest}
use Rattle.garbled.proofs.found.Given as goal

abbrev pub invariant-loop-i : goal.invariant-loop-i
invariant-loop-i l = Each l.line.n l.highest (highest l.line.n l.senders l.sender l.part l.bytes l.start l.i)
