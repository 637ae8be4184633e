-- `list_run` meets its contract: the outcomes of at most 32 stations have room.
use lib.ListN.{replicate}
use lib.Seq.{length-take-le}
use Rattle.line.specs.Line.{outcome_size, largest_outcomes}
use Rattle.listing.proofs.BitLaws.{few, bits_begin}
use native.Mathlib.Omega.{arith}
use Prim.Native.Nat.{◌*◌, ◌≤◌}
use mathlib.Core.Path.{sym}
use mathlib.Core.List.{[]}
use Rattle.listing.proofs.list_run.Goals as goal

pub slice_bounds-outcomes-end : goal.slice_bounds-outcomes-end
slice_bounds-outcomes-end c =
    omega (arith, few _ _ _ _ [] c.requires)

pub slice_bounds-list_outcomes-end : goal.slice_bounds-list_outcomes-end
slice_bounds-list_outcomes-end c =
    let h : outcome_size * c.args.header.line.n ≤ largest_outcomes = omega (arith, few _ _ _ _ [] c.requires) in
    sym (length-take-le (outcome_size * c.args.header.line.n) (replicate largest_outcomes 0) h)

pub list_outcomes-requires : goal.list_outcomes-requires
list_outcomes-requires c =
    let h : outcome_size * c.args.header.line.n ≤ largest_outcomes = omega (arith, few _ _ _ _ [] c.requires) in
    bits_begin _ _ _ _ _ c.requires (length-take-le (outcome_size * c.args.header.line.n) (replicate largest_outcomes 0) h)
