-- `write` meets its contract.
use native.Mathlib.Omega.{arith}
use Rattle.line.proofs.WritingLaws.{each_none, each_turn}
use Rattle.outcome.specs.Outcome.{outcome_at}
use Rattle.outcome.proofs.OutcomeLaws.{reach_filled}
use Rattle.outcome.proofs.write.Goals as goal

pub loop-k-init : goal.loop-k-init
loop-k-init c = each_none _ _

pub loop-k-preserved : goal.loop-k-preserved
unfolding outcome_at
loop-k-preserved c =
    each_turn c.loop-k.byte-items _ c.loop-k.k _ (omega arith) c.loop-k.invariant (rw c.is_marked-bad.ensures at c.outcome_byte.ensures)

pub returns : goal.returns
returns c = reach_filled c.args.outcomes.now _ _ _ c.loop-k.k c.min-end.ensures c.loop-k.auto.byte-items (omega arith) c.loop-k.invariant
