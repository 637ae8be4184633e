-- `walk::judge` meets its contract: 11, 12 and 13, one after the other.
use Rattle.std.proofs.Common.{rules}
use Rattle.std.specs.declared.result.Result.TheVariants.{Err}
use Rattle.refusal.specs.Cause.{no_cause}
use native.Mathlib.Omega.{arith}
use mathlib.Core.Path.{◌≡◌, sym, ◌∙◌}
use Rattle.refusal.proofs.VerdictLaws.{never, some_cause}
use Rattle.judgement.proofs.RangeLaws.{accepted_in_range}
use Rattle.reader.specs.Loops.{record_by}
use Rattle.reader.proofs.WalkLaws.{place_most}
use Rattle.reader.proofs.walk.judge.Goals as goal

pub returns-in_err-numbers_verdict : goal.returns-in_err-numbers_verdict
unfolding record_by
returns-in_err-numbers_verdict c =
    let is = rw (c.rounds-last.ensures, c.bits-bits.ensures) at c.numbers_verdict.ensures.answer_is in
    let (k, e) = some_cause _ c.from_residual.ensures.0 in
    let same : c.numbers_verdict.result ≡ Err k = search rules in
    rw e
    (record {
      verdict_is = rw (← is, same);
      seen_is = λ q. never q;
      kept_is = λ q. never q;
    })

pub place-p-requires : goal.place-p-requires
place-p-requires c =
    let passed : c.numbers_verdict.result ≡ no_cause = search rules in
    let w = accepted_in_range _ _ _ _ _ _ c.numbers_verdict.ensures.answer_is passed in
    (w.round_low, w.from_low, w.to_low)

pub new-requires : goal.new-requires
new-requires c =
    let passed : c.numbers_verdict.result ≡ no_cause = search rules in
    let is = rw (c.rounds-last.ensures, c.bits-bits.ensures) at c.numbers_verdict.ensures.answer_is in
    let w = accepted_in_range _ _ _ _ _ _ is passed in
    omega (arith, c.place-p.ensures, place_most c.args.header c.args.«record» c.requires.0 w)

pub look-requires : goal.look-requires
look-requires c =
    let passed : c.numbers_verdict.result ≡ no_cause = search rules in
    let is = rw (c.rounds-last.ensures, c.bits-bits.ensures) at c.numbers_verdict.ensures.answer_is in
    let w = accepted_in_range _ _ _ _ _ _ is passed in
    (omega (arith, c.place-p.ensures, place_most c.args.header c.args.«record» c.requires.0 w), c.requires.1)

pub returns : goal.returns
unfolding record_by
returns c =
    let passed : c.numbers_verdict.result ≡ no_cause = search rules in
    let is = rw (c.rounds-last.ensures, c.bits-bits.ensures) at c.numbers_verdict.ensures.answer_is in
    let at = c.place-p.ensures in
    record {
      verdict_is = rw (sym is ∙ passed, ← at) c.look.ensures.0;
      seen_is = λ e. c.look.ensures.1 ∙ rw (e, at);
      kept_is = λ e. rw at at c.new.ensures;
    }
