-- `row` meets its contract. The loop's invariant: the bytes so far are silence.
use Rattle.line.specs.Ballot.{silence}
use Rattle.line.specs.Writing.{Each}
use Rattle.generator.proofs.rows.row.Given as goal

abbrev pub invariant-loop-byte : goal.invariant-loop-byte
invariant-loop-byte l = Each l.byte-index l.row (λ j. silence)
