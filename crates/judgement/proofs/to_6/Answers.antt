-- `to_6` meets its contract: cause 1 comes first.
use Rattle.std.proofs.Common.{rules}
use mathlib.Core.Path.{sym, ◌∙◌}
use Rattle.refusal.proofs.VerdictLaws.{judged, refused_true, refused_false}
use Rattle.refusal.specs.declared.cause.Cause.TheVariants.{SheetForm}
use Rattle.judgement.specs.Judgement.{verdict_to_6, sheet_form}
use Rattle.judgement.proofs.to_6.Goals as goal

pub returns-in_err-refused_if : goal.returns-in_err-refused_if
unfolding verdict_to_6 sheet_form
returns-in_err-refused_if c = judged (search rules)

pub returns : goal.returns
unfolding verdict_to_6 sheet_form
returns c = judged (search rules)
