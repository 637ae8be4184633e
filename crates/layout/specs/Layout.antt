-- The run sheet, byte by byte (document 01, "The run sheet"; document 02, request 5). A sheet is the list of its bytes; past its end the definitions read zeros, which have
-- no effect, since a sheet whose length is wrong is refused for that.
use Rattle.std.specs.Prelude.{ℕ, ◌+◌, ◌-◌, ◌*◌, ◌/◌, List, length, get_or}
use Rattle.line.specs.Line.{table_length}
use Rattle.line.specs.Width.{tables_length}
use Rattle.header.specs.declared.Header.{Header}

unfoldable pub byte : List ℕ → ℕ → ℕ
byte s i = get_or s i 0

-- "Two-byte and four-byte numbers are low byte first."
unfoldable pub two : List ℕ → ℕ → ℕ
two s i = byte s i + 256 * byte s (i + 1)

unfoldable pub four : List ℕ → ℕ → ℕ
four s i = two s i + 65536 * two s (i + 2)

-- "Header: byte 0 n, 1 t, 2 T, 3 sender, 4 value, [..] 8–11 the marks"; request 5: "Sheet byte 5 holds w, 0 standing for 1 there [..], and byte 4 the number."
unfoldable pub header : List ℕ → Header
header s =
    record { line = record { n = byte s 0; t = byte s 1; upper = byte s 2 }; sender = byte s 3; value = byte s 4; w = byte s 5; marks = four s 8 }

-- the length of one bit's table on the sheet's line; where the sheet has no whole header, that of the bytes there are, and zeros
abbrev pub table_wanted : List ℕ → ℕ
table_wanted s = table_length (header s).line.n (header s).line.t

-- and of all bits' tables (request 5)
abbrev pub tables_wanted : List ℕ → ℕ
tables_wanted s = tables_length (header s).line.n (header s).line.t (header s).w

-- "6–7 index of the first record or 0"
unfoldable pub first : List ℕ → ℕ
first s = two s 6

-- "k at most 4,096"
abbrev pub most_records : ℕ
most_records = 4096

-- the bytes of a sheet with so many
abbrev pub longest_sheet : ℕ
longest_sheet = 12 + 8 * most_records

-- "Then k records of 8 bytes": k, by the sheet's length
unfoldable pub records : List ℕ → ℕ
records s = (length s - 12) / 8

-- "record 1 at byte 12"
unfoldable pub start : ℕ → ℕ
start i = 12 + 8 * (i - 1)

-- "round, from, to, ballot, next index (two bytes), two zero bytes": of the record with index i
unfoldable pub round : List ℕ → ℕ → ℕ
round s i = byte s (start i)

unfoldable pub from : List ℕ → ℕ → ℕ
from s i = byte s (start i + 1)

unfoldable pub to : List ℕ → ℕ → ℕ
to s i = byte s (start i + 2)

unfoldable pub ballot : List ℕ → ℕ → ℕ
ballot s i = byte s (start i + 3)

unfoldable pub next : List ℕ → ℕ → ℕ
next s i = two s (start i + 4)

-- request 5: "record byte 6 the bit from 0 to w−1"
unfoldable pub bit : List ℕ → ℕ → ℕ
bit s i = byte s (start i + 6)

-- of the two zero bytes one is left (request 5: "11 wants only record byte 7 to be zero")
unfoldable pub rest : List ℕ → ℕ → ℕ
rest s i = byte s (start i + 7)
