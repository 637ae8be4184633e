-- `judge_inputs` meets its contract: the length's test, then the count.
use borrow.Author.Rules.{rules}
use mathlib.Core.Path.{sym, ◌∙◌}
use borrow.Author.Tests.{eq-eqb, ne_eqb}
use lib.ListN.{length}
use Rattle.refusal.proofs.VerdictLaws.{refused_false}
use Rattle.exchange.specs.Promise.{inputs_verdict}
use Rattle.exchange.proofs.judge_inputs.Goals as goal

pub returns-then-inputs-n : goal.returns-then-inputs-n
unfolding inputs_verdict
returns-then-inputs-n c =
    let g = c.args in
    let e = c.if-inputs-n.true in
    c.refused_if.ensures.answer_is ∙ rw (c.count_foreign-count.ensures, eq-eqb (length g.inputs.now) g.n e, e)

pub returns : goal.returns
unfolding inputs_verdict
returns c =
    let g = c.args in
    sym (refused_false _ (rw (ne_eqb (length g.inputs.now) g.n c.if-inputs-n.false)))
