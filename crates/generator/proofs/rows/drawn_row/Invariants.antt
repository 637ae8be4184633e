-- `drawn_row` meets its contract. The loop's invariant: the bytes so far are written, each after a step of the state.
use Rattle.std.proofs.Common.{◌≡◌}
use Rattle.line.specs.Writing.{Each}
use Rattle.xorshift.specs.State.{state_after}
use Rattle.generator.specs.Loops.{drawn_byte}
use Rattle.generator.proofs.rows.drawn_row.Given as goal

abbrev pub invariant-loop-byte : goal.invariant-loop-byte
invariant-loop-byte l = (l.state ≡ state_after l.byte-index l.fn.state) × Each l.byte-index l.row (drawn_byte l.fn.state)
