-- `list_header` meets its contract: the outcomes of at most 32 stations have room.
use native.Mathlib.Omega.{arith}
use Prim.Native.Nat.{◌*◌, ◌≤◌}
use mathlib.Core.Path.{sym}
use lib.ListN.{replicate}
use lib.Seq.{length-take-le}
use Rattle.line.specs.Line.{outcome_size, largest_outcomes}
use Rattle.seeds.proofs.OutputLaws.{ready_header, few}
use Rattle.seeds.proofs.list_header.Goals as goal

pub slice_bounds-outcomes-end : goal.slice_bounds-outcomes-end
slice_bounds-outcomes-end c =
    omega (arith, few _ _ _ _ c.requires)

pub slice_bounds-list_seeds-end : goal.slice_bounds-list_seeds-end
slice_bounds-list_seeds-end c =
    let h : outcome_size * c.args.header.line.n ≤ largest_outcomes = omega (arith, few _ _ _ _ c.requires) in
    sym (length-take-le (outcome_size * c.args.header.line.n) (replicate largest_outcomes 0) h)

pub list_seeds-requires : goal.list_seeds-requires
list_seeds-requires c =
    let h : outcome_size * c.args.header.line.n ≤ largest_outcomes = omega (arith, few _ _ _ _ c.requires) in
    ready_header _ _ _ _ _ c.requires (length-take-le (outcome_size * c.args.header.line.n) (replicate largest_outcomes 0) h)
