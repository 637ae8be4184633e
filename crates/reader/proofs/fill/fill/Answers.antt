-- `fill::fill` meets its contract.
use mathlib.Core.Path.{sym, ◌∙◌}
use Rattle.reader.proofs.WalkLaws.{laid_start, laid_turn}
use Rattle.reader.proofs.fill.fill.Goals as goal

pub loop-placed-init : goal.loop-placed-init
loop-placed-init c = c.fill.ensures ∙ sym (laid_start _ _ _)

pub loop-placed-preserved : goal.loop-placed-preserved
loop-placed-preserved c = c.put.ensures ∙ rw c.loop-placed.invariant (sym (laid_turn _ _ _ _))
