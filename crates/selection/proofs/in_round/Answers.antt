-- `in_round` meets its contract.
use native.Mathlib.Omega.{arith}
use mathlib.Core.Path.{◌≡◌, ◌∙◌}
use Prim.Native.Nat.{◌+◌, ◌*◌, ◌-◌}
use Rattle.line.proofs.CountLaws.{count_le}
use Rattle.line.proofs.LineLaws.{row_within}
use Rattle.selection.specs.Places.{to_write}
use Rattle.selection.proofs.LeapLaws.{leaps_first}
use Rattle.selection.proofs.CountingLaws.{own_length, round_start, round_on}
use Rattle.selection.proofs.in_round.Goals as goal

pub loop-i-init : goal.loop-i-init
loop-i-init c =
    let a = c.args in
    let f = leaps_first a.marks a.n a.to.now c.requires.2 c.requires.0 0 (omega arith) in
    rw c.from-i.ensures (f.high, f.there, round_start a.n a.marks a.round.now _ f)

pub in_row-requires : goal.in_row-requires
in_row-requires c =
    let a = c.args in
    let n = a.n in
    let i = c.loop-i.i in
    let z : i * n + n - i * n ≡ n = omega arith in
    rw z (omega (arith, own_length n a.marks a.round.now i c.loop-i-test.true c.requires.1))

pub overflow_add-k : goal.overflow_add-k
overflow_add-k c =
    let a = c.args in
    let i = c.loop-i.i in
    omega (arith, count_le (i * a.n) (to_write a.n a.marks a.round.now), row_within i a.n a.n c.loop-i-test.true)

pub loop-i-smaller : goal.loop-i-smaller
loop-i-smaller c =
    let a = c.args in
    omega (arith, (leaps_first a.marks a.n a.to.now c.requires.2 c.requires.0 (c.loop-i.i + 1) (omega arith)).low)

pub loop-i-preserved : goal.loop-i-preserved
loop-i-preserved c =
    let a = c.args in
    let i = c.loop-i.i in
    let inv = c.loop-i.invariant in
    let l = c.loop-i-test.true in
    let f = leaps_first a.marks a.n a.to.now c.requires.2 c.requires.0 (i + 1) (omega arith) in
    let z : i * a.n + a.n - i * a.n ≡ a.n = omega arith in
    let e = c.from-k.ensures ∙ rw z at c.in_row.ensures in
    rw c.from-i-in-loop-i.ensures (f.high, f.there, round_on a.n a.marks a.round.now i _ _ _ c.requires.1 l (inv.1 l) inv.2 e f)

pub returns : goal.returns
returns c =
    let e : c.loop-i.i ≡ c.args.n = omega arith in
    rw e at c.loop-i.invariant.2
