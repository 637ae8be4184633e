-- `kept_on` meets its contract: compared, or no such round.
use Rattle.std.proofs.Common.{◌≡◌, arith, refl, sym, length, length-set}
use Rattle.line.proofs.LineLaws.{round_means}
use Rattle.line.proofs.WritingLaws.{each_none, each_turn}
use Rattle.compare.specs.Compare.{unless_other}
use Rattle.compare.proofs.CompareLaws.{kept_all, kept_nowhere}
use Rattle.compare.proofs.kept_on.Goals as goal
use Rattle.compare.proofs.kept_on.Goals.{then-same, else-same}

pub returns-then-not-has_round : goal.returns-then-not-has_round
returns-then-not-has_round c = kept_nowhere _ _ _ _ _ (sym c.if-not-has_round.ensures)

pub loop-i-init : goal.loop-i-init
loop-i-init c =
    let g = c.args in ((round_means g.line.n g.start (length g.bytes.now) (sym c.if-not-has_round.ensures)).0, refl, each_none _ _)

pub loop-i-preserved : goal.loop-i-preserved
unfolding unless_other
loop-i-preserved c = (
  c.loop-i.invariant.0,
  simp length-set c.loop-i.invariant.1,
  each_turn c.loop-i.next _ c.loop-i.i _ (omega arith) c.loop-i.invariant.2
      (elim c.if-same.branch [
        | then-same w ↦ rw (w.next-is, ← w.if-same.ensures)
        | else-same w ↦ rw (w.next-is, ← w.if-same.ensures)
      ]),
)

pub returns : goal.returns
returns c =
    let e : c.loop-i.i ≡ c.args.line.n = omega arith in
    kept_all _ _ _ _ _ _ (sym c.if-not-has_round.ensures) (rw e at c.loop-i.invariant.2)
