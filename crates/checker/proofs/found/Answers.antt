-- `found` meets its contract: followed through all rounds, and the marks put together.
use mathlib.Core.Path.{◌∙◌}
use Rattle.checker.specs.Promise.{logged}
use Rattle.checker.specs.Followed.{tried_value}
use Rattle.checker.proofs.MarkLaws.{with_outcomes, broke_is}
use Rattle.checker.proofs.found.Goals as goal

pub returns : goal.returns
unfolding tried_value
returns c =
    let g = c.args in
    let L = logged g.line.n g.line.t g.line.upper g.sender g.log.now g.outcomes.now in
    c.breaches.ensures ∙ broke_is L _ (with_outcomes _ _ _ _ _ g.outcomes.now _ _ _ c.all_rounds-course.ensures)
