-- `all_rounds` meets its contract. The loop's invariant: r rounds are followed.
use mathlib.Core.Path.{◌≡◌}
use native.Mathlib.Omega.{arith}
use native.Mathlib.Numerals.{add-one}
use Rattle.line.specs.Line.{rounds}
use Rattle.round.specs.Round.{said_by}
use Rattle.round.proofs.RoundLaws.{all_of}
use Rattle.checker.proofs.FollowLaws.{opened_follows, followed_on}
use Rattle.checker.proofs.all_rounds.Goals as goal

pub loop-r-init : goal.loop-r-init
loop-r-init c = rw (c.opened.ensures, c.tried_value.ensures) (opened_follows _ c.requires _)

pub loop-r-preserved : goal.loop-r-preserved
unfolding said_by
loop-r-preserved c =
    let g = c.args in
    let r = c.loop-r.r in
    let said = rw (c.part_of-part.ensures, add-one r) at (all_of g.line.n _ _ c.requires.most c.tell-said.ensures) in
    let took = rw (c.part_of-part.ensures, add-one r) at c.take-course.ensures in
    rw (add-one r) (followed_on _ c.requires r (omega arith) _ _ c.loop-r.invariant _ said _ c.kept_on-course.ensures _ took)

pub returns : goal.returns
returns c =
    let e : c.loop-r.r ≡ rounds c.args.line.t = omega arith in
    rw e at c.loop-r.invariant
