-- `numbers` meets its contract.
use mathlib.Core.Path.{◌≡◌, sym}
use native.Mathlib.Omega.{arith}
use Rattle.text.proofs.LaidLaws.{puts_none, puts_then, puts_length}
use Rattle.finding.proofs.FindingLaws.{numbers_none, numbers_more, numbers_same}
use Rattle.finding.proofs.numbers.Goals as goal
use Rattle.finding.proofs.numbers.Goals.{then-is_marked, else-is_marked}

pub loop-i-init : goal.loop-i-init
loop-i-init c = rw (numbers_none c.args.marks) (puts_none _ _ c.well_formed.0.0 c.ranges.at.fits)

pub loop-i-preserved : goal.loop-i-preserved
loop-i-preserved c =
    elim c.if-is_marked.branch [
      | then-is_marked w ↦
          rw (w.out-is, w.place-is, numbers_more c.args.marks c.loop-i.i (sym w.if-is_marked.ensures)) (puts_then c.loop-i.invariant w.field-place.ensures)
      | else-is_marked w ↦ rw (w.out-is, w.place-is, numbers_same c.args.marks c.loop-i.i (sym w.if-is_marked.ensures)) c.loop-i.invariant
    ]

pub shape_of-out : goal.shape_of-out
shape_of-out c = puts_length c.loop-i.invariant

pub returns : goal.returns
returns c =
    let all : c.loop-i.i ≡ 32 = omega arith in
    rw all at c.loop-i.invariant
