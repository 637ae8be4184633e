-- `generate` meets its contract, case by case of the verdict.
use Rattle.std.proofs.Common.{rules}
use Rattle.generator.proofs.PromiseLaws.{generates_accepted, generates_refused}
use Rattle.refusal.proofs.VerdictLaws.{some_cause}
use mathlib.Core.Path.{refl}
use Rattle.generator.proofs.generate.Goals as goal

pub returns : goal.returns
returns c = generates_accepted _ _ _ (search rules) _ _ refl (rw c.header_of-h.ensures at c.fill.ensures)

pub returns-in_err-judge : goal.returns-in_err-judge
returns-in_err-judge c =
    let (k, e) = some_cause _ c.from_residual.ensures.0 in
    generates_refused _ _ _ (search rules) k e
