-- `rehearse` meets its contract, case by case of the verdict.
use Rattle.recipe.proofs.PromiseLaws.{playable, accepted, refused}
use Rattle.std.proofs.Common.{rules}
use mathlib.Core.Path.{sym, ◌∙◌}
use mathlib.Core.Path.{refl}
use Rattle.refusal.proofs.VerdictLaws.{some_cause}
use Rattle.recipe.proofs.rehearse.Goals as goal

pub run-requires : goal.run-requires
run-requires c = playable _ _ _ (search rules)

pub returns : goal.returns
returns c = accepted _ _ _ _ _ _ (search rules) refl c.run.ensures

pub returns-in_err-judge : goal.returns-in_err-judge
returns-in_err-judge c = let (k, e) = some_cause _ c.from_residual.ensures.0 in refused _ _ _ _ k (search rules) e
