-- `list` meets its contract: what is said of the fronts is said of the whole buffers.
use mathlib.Core.Path.{sym, ◌∙◌}
use native.Mathlib.Nat.{le_trans}
use lib.Seq.{length-take-le}
use Rattle.listing.proofs.ListingLaws.{lists_parts}
use Rattle.listing.proofs.list.Goals as goal

pub slice_bounds-list_whole-end-2 : goal.slice_bounds-list_whole-end-2
slice_bounds-list_whole-end-2 c = sym (length-take-le _ _ (le_trans c.shorter-b.ensures.1 c.shorter-a.ensures.2))

pub slice_bounds-list_whole-end-4 : goal.slice_bounds-list_whole-end-4
slice_bounds-list_whole-end-4 c = sym (length-take-le _ _ c.shorter-b.ensures.2)

pub list_whole-requires : goal.list_whole-requires
list_whole-requires c =
    length-take-le _ _ c.shorter-b.ensures.2
    ∙ sym (length-take-le _ _ (le_trans c.shorter-b.ensures.1 c.shorter-a.ensures.2))

pub returns : goal.returns
returns c =
    let a = c.shorter-a.ensures in
    let b = c.shorter-b.ensures in
    let w = c.table_len-len.ensures in
    lists_parts _ _ _ _ _ _ _ _ _ _ (le_trans b.1 a.2) b.2 (rw (← w) a.0) b.0 c.list_whole.auto.table c.list_whole.auto.log c.list_whole.ensures
