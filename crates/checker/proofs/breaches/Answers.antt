-- `breaches` meets its contract. The loop's invariant: the marks of the stations from i on are put together.
use Rattle.std.specs.Prelude.{if◌then◌else◌}
use borrow.Author.Rules.{rules}
use Prim.Native.Nat.{◌-◌}
use mathlib.Core.Path.{◌≡◌}
use native.Mathlib.Omega.{arith}
use Rattle.line.proofs.MarksLaws.{together_none, together_down, together_below, together_twice, together_end}
use Rattle.checker.specs.Followed.{breaches}
use Rattle.checker.proofs.breaches.Goals as goal

pub loop-i-init : goal.loop-i-init
loop-i-init c = together_none _ _

pub overflow_mul-marks : goal.overflow_mul-marks
overflow_mul-marks c =
    record { fits = together_twice c.args.n _ c.loop-i.i c.loop-i.marks c.requires.0 (omega arith) c.loop-i.invariant }

pub overflow_add-marks : goal.overflow_add-marks
unfolding breaches
overflow_add-marks c =
    let s = c.args.course.stations in
    let bit : c.from.result ≡ (if breaches s.value s.grade s.garbled c.args.course.kept c.args.outcomes.now (c.loop-i.i - 1) then 1 else 0) = search rules in
    let step = together_down c.args.n _ c.loop-i.i c.loop-i.marks _ (omega arith) bit c.loop-i.invariant in
    record { fits = together_below c.args.n _ (c.loop-i.i - 1) _ c.requires.0 step }

pub loop-i-preserved : goal.loop-i-preserved
unfolding breaches
loop-i-preserved c =
    let s = c.args.course.stations in
    let bit : c.from.result ≡ (if breaches s.value s.grade s.garbled c.args.course.kept c.args.outcomes.now (c.loop-i.i - 1) then 1 else 0) = search rules in
    together_down c.args.n _ c.loop-i.i c.loop-i.marks _ (omega arith) bit c.loop-i.invariant

pub returns : goal.returns
returns c =
    let e : c.loop-i.i ≡ 0 = omega arith in
    together_end _ _ c.loop-i.marks (rw e at c.loop-i.invariant)
