-- `check` meets its contract, case by case of the verdict.
use Rattle.std.proofs.Common.{rules}
use mathlib.Core.Path.{sym, ◌∙◌}
use Rattle.checker.specs.Promise.{logged, verdict_of}
use mathlib.Core.Path.{◌≡◌}
use Rattle.refusal.specs.Cause.{no_cause}
use Rattle.checker.proofs.AnswerLaws.{checkable_alone, outcomes_whole, checks}
use Rattle.checker.proofs.check.Goals as goal

pub found-requires : goal.found-requires
found-requires c =
    let g = c.args in
    let L = logged g.line.n g.line.t g.line.upper g.sender g.log.now g.outcomes.now in
    let accepted : verdict_of L ≡ no_cause = search rules in
    (checkable_alone L accepted, outcomes_whole L accepted)

pub returns : goal.returns
returns c = checks _ _ (search rules)

pub returns-in_err-judge : goal.returns-in_err-judge
returns-in_err-judge c = checks _ _ (search rules)
