-- What is shown of the definitions. Each statement has a name here, and proofs/Theorems.antt has the law that proves it.
use Rattle.std.specs.Prelude.{ℕ, ◌≤◌, ◌≡◌, List, length}
use Rattle.line.specs.Line.{largest_table}
use Rattle.layout.specs.Chain.{Fate}
use Rattle.listing_lines.specs.Lines.{lines}
use Rattle.listing_lines.specs.Text.{text}
use Rattle.listing.specs.Promise.{front, listing, Lists, Listed}

-- "The largest has 36,864 bytes.": with so many of table and of log the text is that of the lines that the sheet has by Lines.antt
abbrev pub ListingWhole : Type 0
ListingWhole =
    (s : List ℕ) (table_size log_size : ℕ) (fate : Fate s) → largest_table ≤ table_size → largest_table ≤ log_size
    → listing s (front s table_size log_size) fate ≡ text (lines s fate)

-- no listing is longer: the first line has at most 21 bytes, a good station's line at most 13 and from station 10 on 14, a bad one's three less. Where no station
-- is bad every count is 0, and a good one's line is a byte shorter, so that a longest one has one bad station. examples/longest.sheet has it
abbrev pub longest_listing : ℕ
longest_listing = 457

abbrev pub ListingShort : Type 0
ListingShort = (s : List ℕ) (lent_size : ℕ) (fate : Fate s) → length (listing s lent_size fate) ≤ longest_listing

-- and so with as much of table, log and text nothing is cut
abbrev pub ListingFits : Type 0
ListingFits =
    (s table₀ table₁ log₀ log₁ text₀ text₁ : List ℕ) (answer : ℕ) → Lists s table₀ table₁ log₀ log₁ text₀ text₁ answer
    → largest_table ≤ length table₀ → largest_table ≤ length log₀ → longest_listing ≤ length text₀ → Listed s text₁ answer
