-- What is shown of the runs that seeds generate. Each statement has a name here, and proofs/Theorems.antt has the law that proves it.
use Rattle.std.specs.Prelude.{ℕ, ◌*◌, ◌≤◌, ◌≡◌, List, length}
use Rattle.refusal.specs.Cause.{no_cause}
use Rattle.layout.specs.Layout.{header, tables_wanted, most_records}
use Rattle.layout.specs.Chain.{Fate}
use Rattle.judgement.specs.Judgement.{sheet_verdict, verdict_to_6}
use Rattle.reader.specs.Reading.{table_of}
use Rattle.selection.specs.Places.{how_many}
use Rattle.writer.specs.Sheet.{sheet}
use Rattle.writer.specs.Judgement.{before_buffer}
use Rattle.listing_lines.specs.Lines.{lines}
use Rattle.listing.specs.Theorems.{longest_listing}
use Rattle.generator.specs.Tables.{generated}
use Rattle.generator.specs.Judgement.{generate_verdict}
use Rattle.seeded.specs.Listings.{seed_lines, listings}

-- a header and its generated tables, written and read
pub record GeneratedBack (h : List ℕ) (seed : ℕ) : Type 0 where
  -- nothing refuses to write them
  pub writable : before_buffer h (generated (header h) seed) ≡ no_cause
  -- the sheet is accepted, and reads back to the header's numbers and to the tables, every byte
  pub accepted : (f : Fate (sheet h (generated (header h) seed))) → sheet_verdict (sheet h (generated (header h) seed)) (tables_wanted h) f ≡ no_cause
  pub header_back : header (sheet h (generated (header h) seed)) ≡ header h
  pub table_back : (f : Fate (sheet h (generated (header h) seed))) → table_of (sheet h (generated (header h) seed)) f ≡ generated (header h) seed
  -- and its listing, which the program agree prints, is the one that the program seeds prints for that seed
  pub same_listing : (f : Fate (sheet h (generated (header h) seed))) → lines (sheet h (generated (header h) seed)) f ≡ seed_lines (header h) seed

-- The tables have 255 at every unmarked sender, so that the writer's sheet of them reads back to them, wherever it has at most 4,096 records.
abbrev pub GeneratedReadsBack : Type 0
GeneratedReadsBack =
    (h : List ℕ) (seed : ℕ) → generate_verdict h seed (tables_wanted h) ≡ no_cause
    → how_many (header h) (generated (header h) seed) ≤ most_records → GeneratedBack h seed

-- no listings are longer
abbrev pub ListingsShort : Type 0
ListingsShort = (s : List ℕ) → verdict_to_6 s ≡ no_cause → (m : ℕ) → length (listings (header s) m) ≤ longest_listing * m
