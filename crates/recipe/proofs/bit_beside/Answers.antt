-- `bit_beside` meets its contract, case by case of the verdict.
use Rattle.recipe.proofs.BitLaws.{alike, accepted, refused}
use Rattle.std.proofs.Common.{rules}
use mathlib.Core.Path.{◌≡◌}
use Rattle.std.specs.declared.result.Result.TheVariants.{Err}
use Rattle.refusal.proofs.VerdictLaws.{some_cause}
use Rattle.recipe.proofs.bit_beside.Goals as goal

pub add-requires : goal.add-requires
add-requires c =
    alike _ _ _ _ _ _ _ _ c.requires.0 c.requires.1 c.rehearse.ensures (search rules)

pub returns : goal.returns
returns c =
    rw c.in_ok-rehearse.was at (accepted _ _ _ _ _ _ _ _ c.requires.0 c.requires.1 c.rehearse.ensures _ (search rules) c.add.ensures)

pub returns-in_err-rehearse : goal.returns-in_err-rehearse
returns-in_err-rehearse c =
    let (k, e) = some_cause _ c.from_residual.ensures.0 in
    let same : c.rehearse.result ≡ Err k = search rules in
    rw (e, ← same) (refused _ _ _ _ _ _ _ _ c.requires.0 c.requires.1 c.rehearse.ensures k same)
