-- `breaches` meets its contract. The loop's invariant: the marks of the stations from i on are put together.
use Prim.Native.Nat.{◌+◌, ◌*◌, ◌^◌}
use mathlib.Core.Path.{◌≡◌}
use Rattle.line.specs.Marks.{marks_of}
use Rattle.checker.specs.Followed.{breaches}
use Rattle.checker.proofs.breaches.Given as goal

abbrev pub invariant-loop-i : goal.invariant-loop-i
invariant-loop-i l =
    let p = breaches l.s.value l.s.grade l.s.garbled l.course.kept l.outcomes in
    marks_of l.n p ≡ l.marks * 2 ^ l.i + marks_of l.i p
