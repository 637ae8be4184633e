-- `list_outcomes` meets its contract.
use Rattle.listing.proofs.ListingLaws.{lists_run}
use Rattle.listing.proofs.list_outcomes.Goals as goal

pub returns : goal.returns
returns c = lists_run _ _ _ _ _ c.run_bits.ensures _ _ _ c.of_run.ensures
