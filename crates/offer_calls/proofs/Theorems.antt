-- The statement of specs/Theorems.antt, by the law that proves it.
use Rattle.offer_calls.specs.Theorems.{OffersOnNumbers}
use Rattle.offer_calls.proofs.OfferLaws.{on_numbers}

pub offers_on_numbers : OffersOnNumbers
offers_on_numbers = on_numbers
