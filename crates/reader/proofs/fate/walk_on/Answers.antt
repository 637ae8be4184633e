-- `fate::walk_on` meets its contract.
use native.Mathlib.Omega.{arith}
use Prim.Native.Nat.{◌<◌}
use mathlib.Core.Path.{◌≡◌, sym, ◌∙◌}
use mathlib.Core.Logic.{◌⊎◌, inl, inr}
use Rattle.layout.specs.Layout.{records}
use Rattle.layout.proofs.ChainLaws.{Over, true_record, false_over}
use Rattle.reader.proofs.WalkLaws.{hit_turn, hit_told}
use Rattle.reader.proofs.fate.walk_on.Goals as goal
use Rattle.reader.proofs.fate.walk_on.Goals.{else-loop-test, then-loop-test+then-not-is_record}

pub loop-preserved : goal.loop-preserved
loop-preserved c =
    let s = c.args.sheet.now in
    let l = c.loop in
    let room : l.counter < records s = omega (arith, c.records-k.ensures) in
    hit_turn s _ _ _ l.invariant (true_record s l.i (cc)) room _ c.record_at-i.ensures

pub returns : goal.returns
returns c =
    let s = c.args.sheet.now in
    let l = c.loop in
    let last : Over s l.i ⊎ (l.counter ≡ records s) =
    elim c.loop-test.branch [
      | else-loop-test w ↦ inr (omega (arith, c.records-k.ensures, l.invariant.position))
      | then-loop-test+then-not-is_record w ↦ inl (false_over s l.i (sym w.is_record.ensures ∙ w.if-not-is_record.true))
    ] in
    rw (c.told.ensures, c.records-k.ensures) (hit_told s _ _ _ l.invariant last)
