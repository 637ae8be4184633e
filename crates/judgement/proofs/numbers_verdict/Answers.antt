use Rattle.std.proofs.Common.{rules}
use mathlib.Core.Path.{◌≡◌}
use Rattle.refusal.specs.declared.cause.Cause.TheVariants.{RecordForm}
use Rattle.refusal.proofs.VerdictLaws.{accepted_false, judged, refused_true, refused_false}
use Rattle.judgement.specs.Numbers.{numbers_verdict, out_of_place}
use mathlib.Core.Bool.{false}
use Rattle.judgement.proofs.RangeLaws.{numbers_in_range}
use Rattle.judgement.proofs.numbers_verdict.Goals as goal

pub unmarked-requires : goal.unmarked-requires
unmarked-requires c =
    let g = c.args in
    let inside : out_of_place g.n g.last g.bits g.«record» ≡ false = accepted_false _ RecordForm (search rules) in
    (numbers_in_range _ _ _ _ inside).from_low

pub returns-in_err-refused_if : goal.returns-in_err-refused_if
unfolding numbers_verdict
returns-in_err-refused_if c = judged (search rules)

pub returns : goal.returns
unfolding numbers_verdict
returns c = judged (search rules)
