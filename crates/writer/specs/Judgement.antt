-- What writing is refused by (document 02, request 1): each cause a test of its own, in the order that the ticket gives.
use Rattle.std.specs.Prelude.{ℕ, List, ltb, length}
use Rattle.refusal.specs.Cause.{refused_if, ◌or_else◌}
use Rattle.refusal.specs.declared.cause.Cause.TheVariants.{TooManyRecords}
use Rattle.refusal.specs.Cause.{Verdict}
use Rattle.header.specs.Header.{exact_length}
use Rattle.layout.specs.Layout.{header, most_records}
use Rattle.judgement.specs.Judgement.{header_length, verdict_to_8}
use Rattle.selection.specs.Places.{how_many}
use Rattle.writer.specs.Sheet.{sheet_length}

-- "A header not of 12 bytes is 1. After the header's causes a table of wrong length is 8": twelve bytes are a sheet without records, and are judged as that, 15 included, with the length of
-- the tables of all bits
unfoldable pub header_and_table : List ℕ → ℕ → Verdict
header_and_table h table_size = header_length h or_else verdict_to_8 h table_size

-- "then more than 4,096 records to write 14"
unfoldable pub too_many : List ℕ → List ℕ → Verdict
too_many h table = refused_if (ltb most_records (how_many (header h) table)) TooManyRecords

-- what writing is refused by before the sheet's buffer is looked at
unfoldable pub before_buffer : List ℕ → List ℕ → Verdict
before_buffer h table = header_and_table h (length table) or_else too_many h table

-- "then a sheet buffer not of the needed length 8"
unfoldable pub write_verdict : List ℕ → List ℕ → ℕ → Verdict
write_verdict h table sheet_size = before_buffer h table or_else exact_length (sheet_length h table) sheet_size
