-- The theorems: each statement of specs/Theorems.antt, under its name, and the law that proves it. Assumes nothing.
use Rattle.rehearsal.specs.Theorems.{RehearsedBonders, Demand3OfBonders, UnflaggedBondersAgree}
use Rattle.rehearsal.proofs.BonderLaws.{rehearsed, guaranteed, unflagged_agree}

pub rehearsed_bonders : RehearsedBonders
rehearsed_bonders = rehearsed

pub demand_3_of_bonders : Demand3OfBonders
demand_3_of_bonders = guaranteed

pub unflagged_bonders_agree : UnflaggedBondersAgree
unflagged_bonders_agree = unflagged_agree
