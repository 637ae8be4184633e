-- The theorems: each statement of specs/Theorems.antt, under its name, and the law that proves it. Assumes nothing.
use Rattle.recipe.specs.Theorems.{Demand3OfNumberBonders, UnflaggedNumberBondersAgree}
use Rattle.recipe.proofs.BonderLaws.{guaranteed, unflagged_agree}

pub demand_3_of_number_bonders : Demand3OfNumberBonders
demand_3_of_number_bonders = guaranteed

pub unflagged_number_bonders_agree : UnflaggedNumberBondersAgree
unflagged_number_bonders_agree = unflagged_agree
