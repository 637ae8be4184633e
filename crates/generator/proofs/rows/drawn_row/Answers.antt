-- `drawn_row` meets its contract.
use Rattle.std.proofs.Common.{refl, arith}
use Rattle.xorshift.specs.State.{state_after}
use Rattle.line.proofs.WritingLaws.{each_none}
use Rattle.generator.proofs.RowLaws.{drawn_turn}
use Rattle.generator.proofs.rows.drawn_row.Goals as goal

pub loop-byte-init : goal.loop-byte-init
unfolding state_after
loop-byte-init c = (refl, each_none _ _)

pub loop-byte-preserved : goal.loop-byte-preserved
loop-byte-preserved c =
    let inv = c.loop-byte.invariant in
    drawn_turn _ _ _ _ _ _ inv.0 c.next-state.ensures c.ballot.ensures (omega arith) inv.1
