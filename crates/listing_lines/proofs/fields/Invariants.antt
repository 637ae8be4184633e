-- `fields` meets its contract. The loop's invariant: what is left to put makes the whole.
use Prim.Native.Nat.{ℕ}
use mathlib.Core.List.{List, map}
use lib.ListN.{drop}
use Rattle.text.specs.Laid.{Puts}
use Rattle.listing_lines.specs.Lines.{num}
use Rattle.listing_lines.specs.Text.{more_text}
use Rattle.listing_lines.proofs.fields.Given as goal

abbrev pub invariant-loop-x : goal.invariant-loop-x
invariant-loop-x l =
    (last : List ℕ) (c : ℕ) → Puts l.out last l.place (more_text (map num (drop l.x-index l.numbers))) c
    → Puts l.initial.out last l.at (more_text (map num l.numbers)) c
