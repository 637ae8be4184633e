-- `run_end` meets its contract.
use mathlib.Core.Path.{sym, ◌∙◌}
use Rattle.post.proofs.PostLaws.{alike_none, alike_more}
use Rattle.post.proofs.run_end.Goals as goal

pub loop-k-init : goal.loop-k-init
loop-k-init c = alike_none _ _ _

pub loop-k-preserved : goal.loop-k-preserved
loop-k-preserved c =
    alike_more _ _ _ c.loop-k.k c.loop-k.invariant (sym c.is_marked.ensures ∙ c.if-is_marked.false) c.if-said-k.false
