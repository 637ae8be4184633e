-- `found` meets its contract: the text has room for every line.
use mathlib.Core.Path.{sym, ap, ◌∙◌}
use native.Mathlib.Omega.{arith}
use lib.Seq.{length-take-le}
use Rattle.text.proofs.LaidLaws.{puts_whole}
use Rattle.finding.specs.Finding.{finding}
use Rattle.finding.proofs.Theorems.{finding_short}
use Rattle.audit.proofs.found.Goals as goal

pub returns : goal.returns
returns c =
    let (inside, whole) = puts_whole c.of_answer.ensures (omega (arith, finding_short c.check-answer.result)) in
    (whole ∙ ap finding c.check-answer.ensures.answer_is, (inside, sym (length-take-le _ _ inside)))
