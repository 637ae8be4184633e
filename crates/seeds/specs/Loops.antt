-- What the program's private functions ask for, and how long the output can be.
use Rattle.std.specs.Prelude.{ℕ, ◌*◌, ◌≤◌, ◌≡◌, List, length}
use Rattle.line.specs.Line.{table_length, outcomes_length}
use Rattle.header.specs.declared.Header.{Header}
use Rattle.layout.specs.Layout.{header, table_wanted}
use Rattle.reader.specs.Loops.{SoundHeader}
use Rattle.listing.specs.Theorems.{longest_listing}
use Rattle.seeded.specs.Listings.{last_seed}

-- a hundred of the longest listings
abbrev pub longest_output : ℕ
longest_output = longest_listing * last_seed

-- a seed that isn't refused
pub record Seed (seed : ℕ) : Type 0 where
  pub some : 1 ≤ seed

-- a header that nothing refuses, with a table, a log and outcomes of its line
pub record Ready (h : Header) (table bytes results : List ℕ) : Type 0 where
  pub sound : SoundHeader h
  pub table_whole : length table ≡ table_length h.line.n h.line.t
  pub log_whole : length bytes ≡ table_length h.line.n h.line.t
  pub outcomes_whole : length results ≡ outcomes_length h.line.n

-- an accepted sheet's header, with a table and a log of its line
pub record Begun (s : List ℕ) (h : Header) (table bytes : List ℕ) : Type 0 where
  pub header_is : h ≡ header s
  pub sound : SoundHeader (header s)
  pub table_whole : length table ≡ table_wanted s
  pub log_whole : length bytes ≡ table_wanted s
