-- `list_whole` meets its contract, by what the reader answers.
use Rattle.listing.proofs.BitLaws.{begun}
use Rattle.listing.proofs.ListingLaws.{whole_accepted, whole_refused}
use Rattle.listing.proofs.list_whole.Goals as goal

pub list_run-requires : goal.list_run-requires
list_run-requires c = begun _ _ _ c.read_bit.ensures _ c.in-Ok.is _ c.requires

pub returns-in-Ok : goal.returns-in-Ok
returns-in-Ok c = whole_accepted _ _ _ c.read_bit.ensures _ c.in-Ok.is _ _ _ _ _ _ c.list_run.ensures

pub returns-in-Err : goal.returns-in-Err
returns-in-Err c = whole_refused _ _ _ c.read_bit.ensures _ _ c.in-Err.is c.number.ensures _ _ _ _ c.of_refusal.ensures
