-- The theorems: each statement of specs/Theorems.antt, under its name, and the law that proves it. Assumes nothing.
use Rattle.listing.specs.Theorems.{ListingWhole, ListingShort, ListingFits}
use Rattle.listing.proofs.WholeLaws as whole
use Rattle.listing.proofs.LengthLaws as length

pub listing_whole : ListingWhole
listing_whole s table log fate ht hl = whole.listing_whole s fate table log ht hl

pub listing_short : ListingShort
listing_short = length.listing_short

pub listing_fits : ListingFits
listing_fits = whole.listing_fits
