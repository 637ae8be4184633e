-- The proof of each statement of specs/Theorems.antt.
use Rattle.layout.specs.Layout.{header}
use Rattle.reader.proofs.PromiseLaws.{opened_sound}
use Rattle.seeded.specs.Theorems.{GeneratedReadsBack, ListingsShort}
use Rattle.seeded.proofs.BackLaws as back
use Rattle.seeded.proofs.ListingLaws as listing

pub generated_reads_back : GeneratedReadsBack
generated_reads_back = back.generated_back

pub listings_short : ListingsShort
listings_short s e = listing.listings_short (header s) (opened_sound s e)
