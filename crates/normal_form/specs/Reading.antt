-- What the reader makes of a written sheet: "The reader gives the table back, with 255 at the unmarked senders".
use Rattle.std.specs.Prelude.{ℕ, ◌<◌, ◌≡◌, List, length, get_or, if◌then◌else◌}
use Rattle.refusal.specs.Cause.{no_cause}
use Rattle.line.specs.Marks.{marked}
use Rattle.line.specs.Ballot.{silence}
use Rattle.header.specs.declared.Header.{Header}
use Rattle.layout.specs.Layout.{header, records}
use Rattle.layout.specs.Chain.{Ends, Fate}
use Rattle.judgement.specs.Judgement.{sheet_verdict}
use Rattle.reader.specs.Reading.{table_of}
use Rattle.selection.specs.Places.{from_at, how_many}
use Rattle.writer.specs.Sheet.{sheet}

-- the byte at the place p that is given back: the tables' where its sender is marked, otherwise 255, whatever stood there
unfoldable pub kept : Header → List ℕ → ℕ → ℕ
kept h table p = if marked h.marks (from_at h.line.n p) then get_or table p 0 else silence

-- the written sheet, read
pub record ReadBack (h table : List ℕ) : Type 0 where
  -- its chain ends after all its records
  pub all_records : how_many (header h) table ≡ records (sheet h table)
  pub chain_ends : Ends (sheet h table) (how_many (header h) table)
  -- it is accepted with a buffer of the length handed in, whatever shows the fate of its chain
  pub accepted : (f : Fate (sheet h table)) → sheet_verdict (sheet h table) (length table) f ≡ no_cause
  -- and gives back the header's numbers and every byte of the tables
  pub header_back : header (sheet h table) ≡ header h
  pub length_back : (f : Fate (sheet h table)) → length (table_of (sheet h table) f) ≡ length table
  pub table_back : (f : Fate (sheet h table)) (p : ℕ) → p < length table → get_or (table_of (sheet h table) f) p 0 ≡ kept (header h) table p
