-- What is shown of the definitions. The statement has a name here, and proofs/Theorems.antt has the law that proves it. What is read of a written sheet crate
-- normal has, and that the bytes to be written come in the tables' order crate selection.
use Rattle.std.specs.Prelude.{ℕ, ◌<◌, ◌≡◌, ◌↔◌, List, length}
use Rattle.refusal.specs.Cause.{no_cause}
use Rattle.std.specs.declared.result.Result.TheVariants.{Err}
use Rattle.refusal.specs.declared.cause.Cause.TheVariants.{TooManyRecords}
use Rattle.layout.specs.Layout.{header, most_records}
use Rattle.selection.specs.Places.{how_many}
use Rattle.writer.specs.Judgement.{header_and_table, write_verdict}

-- writing is refused by 14 exactly if no cause before it refuses the header or the tables, and more than 4,096 bytes are to be written, whatever the buffer
abbrev pub RefusedBy14 : Type 0
RefusedBy14 =
    (h table : List ℕ) (size : ℕ)
    → (write_verdict h table size ≡ Err TooManyRecords)
    ↔ ((header_and_table h (length table) ≡ no_cause) × (most_records < how_many (header h) table))
