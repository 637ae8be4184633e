-- `walk::walk` meets its contract.
use native.Mathlib.Omega.{arith}
use Prim.Native.Nat.{◌≤◌, ◌<◌}
use mathlib.Core.Path.{◌≡◌}
use mathlib.Core.Logic.{inl, inr}
use Rattle.layout.specs.Layout.{records}
use Rattle.layout.proofs.ChainLaws.{true_record, false_over}
use Rattle.reader.specs.Loops.{unseen}
use Rattle.reader.proofs.SeenLaws.{seen_length}
use Rattle.reader.proofs.WalkLaws.{going_start, going_turn, going_hit, going_told, fated_told}
use Rattle.reader.proofs.PromiseLaws.{opened_most, opened_sound}
use Rattle.reader.proofs.walk.walk.Goals as goal

pub loop-m-init : goal.loop-m-init
unfolding unseen
loop-m-init c = rw c.first-i.ensures (going_start _ _ c.requires.kept_length)

pub returns-then-not-is_record : goal.returns-then-not-is_record
returns-then-not-is_record c =
    let s = c.args.sheet.now in
    let l = c.loop-m in
    let k = c.records-k.ensures in
    let most : l.m ≤ records s = omega (arith, k) in
    rw (c.told.ensures, k) (going_told s _ _ _ _ l.invariant most (opened_most s c.requires.judged) (inl (false_over s l.i (cc))))

pub offset_bounds-kept-m : goal.offset_bounds-kept-m
offset_bounds-kept-m c = omega (arith, c.records-k.ensures, opened_most c.args.sheet.now c.requires.judged)

pub bounds-kept-m : goal.bounds-kept-m
bounds-kept-m c = omega (arith, c.records-k.ensures, opened_most c.args.sheet.now c.requires.judged)

pub judge-verdict-requires : goal.judge-verdict-requires
judge-verdict-requires c =
    let r = c.requires in
    (rw r.header_is (opened_sound c.args.sheet.now r.judged), rw c.loop-m.invariant.seen_is (seen_length _ _))

pub walk_on-requires : goal.walk_on-requires
walk_on-requires c =
    let s = c.args.sheet.now in
    let r = c.requires in
    let l = c.loop-m in
    let room : l.m < records s = omega (arith, c.records-k.ensures) in
    going_hit s _ r.header_is (rw r.header_is (opened_sound s r.judged)) (opened_most s r.judged) _ _ _ _ l.invariant (true_record s l.i (cc)) room _
    c.record_at-record.ensures _ _ _ c.judge-verdict.ensures _ c.in-Err.is

pub returns-in-Err : goal.returns-in-Err
returns-in-Err c = fated_told c.args.sheet.now _ c.walk_on.result c.walk_on.ensures

pub loop-m-preserved : goal.loop-m-preserved
loop-m-preserved c =
    let s = c.args.sheet.now in
    let r = c.requires in
    let l = c.loop-m in
    let room : l.m < records s = omega (arith, c.records-k.ensures) in
    going_turn s _ r.header_is (rw r.header_is (opened_sound s r.judged)) (opened_most s r.judged) _ _ _ _ l.invariant (true_record s l.i (cc)) room _
    c.record_at-record.ensures _ _ _ c.judge-verdict.ensures c.in_default.is

pub returns : goal.returns
returns c =
    let s = c.args.sheet.now in
    let l = c.loop-m in
    let all : l.m ≡ records s = omega (arith, c.records-k.ensures) in
    rw (c.told-2.ensures, c.records-k.ensures) (rw all at (going_told s _ _ _ _ l.invariant (omega arith) (opened_most s c.requires.judged) (inr all)))
