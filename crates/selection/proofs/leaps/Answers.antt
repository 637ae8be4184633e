-- `leaps` meets its contract.
use Rattle.std.proofs.Common.{rules}
use native.Mathlib.Omega.{arith}
use mathlib.Core.Path.{◌≡◌, sym, ◌∙◌}
use Prim.Native.Nat.{◌+◌, ◌-◌}
use lib.ListN.{get_or, length-set}
use Rattle.std.specs.Prelude.{if◌then◌else◌}
use Rattle.line.specs.Marks.{marked}
use Rattle.line.proofs.CountLaws.{if_true, if_false}
use Rattle.selection.proofs.LeapLaws.{from_large, from_last, from_before}
use Rattle.selection.proofs.leaps.Goals as goal
use Rattle.selection.proofs.leaps.Goals.{then-is_marked, else-is_marked}

pub loop-i-init : goal.loop-i-init
loop-i-init c = (search rules, from_last c.args.marks c.args.n c.if-n-le-STATIONS.true)

pub loop-i-preserved : goal.loop-i-preserved
loop-i-preserved c =
    let a = c.args in
    let l = c.loop-i in
    let i = l.i - 1 in
    let z : i + 1 ≡ l.i = omega arith in
    let v = c.if-is_marked.to in
    let found : v ≡ (if marked a.marks i then i else get_or l.to (i + 1) 0) =
    elim c.if-is_marked.branch [
      | then-is_marked w ↦ w.to-is ∙ sym (if_true _ _ (sym w.if-is_marked.ensures))
      | else-is_marked w ↦ rw c.from-at.ensures at w.to-is ∙ sym (if_false _ _ (sym w.if-is_marked.ensures))
    ] in (
      simp length-set l.invariant.0,
      rw c.from-at.ensures (from_before a.marks a.n c.if-n-le-STATIONS.true i v l.to (omega arith) (omega (arith, l.invariant.0)) (rw z l.invariant.1) found),
    )

pub returns-else-n-le-STATIONS : goal.returns-else-n-le-STATIONS
returns-else-n-le-STATIONS c =
    record { size = search rules; each = λ i l. from_large c.args.marks c.args.n (omega arith) i (omega arith) l }
