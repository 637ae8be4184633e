-- `refused_if` meets its contract, by the test at each arm.
use mathlib.Core.Path.{sym}
use Rattle.refusal.proofs.VerdictLaws.{judged, refused_true, refused_false}
use Rattle.refusal.proofs.cause.refused_if.Goals as goal

pub returns-then-test : goal.returns-then-test
returns-then-test c = judged (sym (refused_true c.args.cause c.if-test.true))

pub returns-else-test : goal.returns-else-test
returns-else-test c = judged (sym (refused_false c.args.cause c.if-test.false))
