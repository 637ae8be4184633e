-- `word` meets its contract.
use Rattle.text.proofs.LaidLaws.{puts_none, puts_turn}
use Rattle.text.proofs.word.Goals as goal

pub loop-b-init : goal.loop-b-init
loop-b-init c = puts_none _ _ c.well_formed.0.0 c.ranges.at.fits

pub loop-b-preserved : goal.loop-b-preserved
loop-b-preserved c = puts_turn _ _ c.loop-b-test.true c.loop-b.invariant c.byte-place.ensures
