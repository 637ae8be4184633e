-- The theorems: each statement of specs/Theorems.antt, under its name, and the law that proves it. Assumes nothing.
use Rattle.selection.specs.Theorems.{PlaceTold, PlacesInOrder}
use Rattle.selection.proofs.PlaceLaws.{told}
use Rattle.selection.proofs.OrderLaws.{in_order}

pub place_told : PlaceTold
place_told = told

pub places_in_order : PlacesInOrder
places_in_order = in_order
