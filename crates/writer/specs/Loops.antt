-- What the private functions of the writer do: for their contracts, and no part of what the public calls promise.
use Rattle.std.specs.Prelude.{ℕ, zero, suc, ◌+◌, ◌-◌, ◌*◌, ◌/◌, ◌≤◌, ◌<◌, ◌≡◌, List, eqb, length, get_or, if◌then◌else◌}
use Rattle.line.specs.Count.{count}
use Rattle.line.specs.Line.{rounds, table_length, place}
use Rattle.line.specs.Width.{most_bits, bits, tables_length}
use Rattle.line.specs.Ballot.{silence}
use Rattle.text.specs.Laid.{laid}
use Rattle.header.specs.declared.Header.{Header}
use Rattle.layout.specs.Layout.{header}
use Rattle.record.specs.Bytes.{eight}
use Rattle.selection.specs.Places.{to_write, how_many}
use Rattle.selection.specs.Loops.{spoken}
use Rattle.writer.specs.declared.put.Turn.{Turn}
use Rattle.writer.specs.Sheet.{next_index, records_bytes, sheet}

-- how many records a sheet has room for
abbrev pub room : List ℕ → ℕ
room sheet = (length sheet - 12) / 8

-- a sheet with m records in it, and room for s more
pub record Room (sheet : List ℕ) (m s : ℕ) : Type 0 where
  pub size : length sheet ≡ 12 + 8 * room sheet
  pub most : room sheet ≤ 4096
  pub left : m + s ≤ room sheet

-- the sheet with record m + 1 in it; as it was where the ballot is silence
unfoldable pub put_at : List ℕ → (m : ℕ) → Turn → (from to ballot : ℕ) → List ℕ
put_at sheet m turn from to ballot =
    if eqb ballot silence then sheet
    else laid sheet (12 + 8 * m) (eight turn.round from to ballot (next_index (room sheet) (m + 1)) turn.bit)

-- how many of a row's first j bytes are not silence
unfoldable pub spoken_in : List ℕ → ℕ → ℕ
spoken_in row zero = 0
spoken_in row (suc j) = spoken_in row j + spoken (get_or row j 0)

-- the sheet with the records of a row's first j bytes in it, after m others
unfoldable pub put_row_at : List ℕ → (m : ℕ) → Turn → (from : ℕ) → List ℕ → ℕ → List ℕ
put_row_at sheet m turn from row zero = sheet
put_row_at sheet m turn from row (suc j) = put_at (put_row_at sheet m turn from row j) (m + spoken_in row j) turn from (j + 1) (get_or row j 0)

-- Wherever records 1 to m₀ were laid after the twelve bytes, records 1 to m₁ are now.
abbrev pub Goes_on : Header → List ℕ → (sheet₀ : List ℕ) → (m₀ : ℕ) → (sheet₁ : List ℕ) → (m₁ : ℕ) → Type 0
Goes_on h table sheet₀ m₀ sheet₁ m₁ =
    (s : List ℕ) → sheet₀ ≡ laid s 12 (records_bytes h table (how_many h table) m₀) → sheet₁ ≡ laid s 12 (records_bytes h table (how_many h table) m₁)

-- records are to be written from the tables of the header's line into a sheet that has room for them; those before the place `at` are m
pub record Ready (h : Header) (table sheet : List ℕ) (at m : ℕ) : Type 0 where
  pub some : 1 ≤ h.line.n
  pub few : h.line.n ≤ 32
  pub short : rounds h.line.t ≤ 36
  pub narrow : h.w ≤ most_bits
  pub whole : length table ≡ tables_length h.line.n h.line.t h.w
  pub most : how_many h table ≤ 4096
  pub size : length sheet ≡ 12 + 8 * how_many h table
  pub before : m ≡ count at (to_write h.line.n h.marks table)

-- where a round of a bit starts
abbrev pub start_of : Header → Turn → ℕ
start_of h turn = turn.bit * table_length h.line.n h.line.t + place h.line.n turn.round 0 0

-- a round of a bit of the header's line
pub record OfRound (h : Header) (turn : Turn) : Type 0 where
  pub bit_below : turn.bit < bits h.w
  pub round_low : 1 ≤ turn.round
  pub round_high : turn.round ≤ rounds h.line.t

-- `sheet` of Sheet.antt: a parameter has that name
abbrev pub sheet_of : List ℕ → List ℕ → List ℕ
sheet_of h table = sheet h table

-- what no cause refuses, with k records
pub record Unrefused (h table sheet : List ℕ) (k : ℕ) : Type 0 where
  pub twelve : length h ≡ 12
  pub ready : Ready (header h) table sheet 0 0
  pub all : k ≡ how_many (header h) table
