-- `number` meets its contract. The loop's invariant: the bytes so far are digits, and x is their number as far as 255.
use Prim.Native.Nat.{min}
use mathlib.Core.Path.{◌≡◌}
use mathlib.Core.Bool.{true}
use lib.ListN.{get_or}
use Rattle.line.specs.Count.{all}
use Rattle.argument.specs.Argument.{digit_byte, read}
use Rattle.argument.proofs.number.Given as goal

abbrev pub invariant-loop-b : goal.invariant-loop-b
invariant-loop-b l =
    (l.x ≡ min (read l.bytes l.b-index) 255) × (all l.b-index (λ k. digit_byte (get_or l.bytes k 0)) ≡ true)
