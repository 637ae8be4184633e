-- Which bytes of the run tables are written, and in which order: "one record for each byte of a marked sender that is not 255, by round, then from, then to",
-- and request 5: "the writer goes by bit before round". That order is the tables' own, one bit's after the other: the places of the bytes increase.
use Rattle.std.specs.Prelude.{ℕ, zero, suc, ◌+◌, ◌-◌, ◌/◌, ◌%◌, Bool, not, ◌&&◌, List, eqb, get_or, if◌then◌else◌}
use Rattle.line.specs.Count.{count}
use Rattle.line.specs.Line.{rounds}
use Rattle.line.specs.Width.{tables_length}
use Rattle.line.specs.Marks.{marked}
use Rattle.line.specs.Ballot.{silence}
use Rattle.header.specs.declared.Header.{Header}

-- ---- the bit, round, sender and receiver whose byte stands at the place p (`PlaceTold` of Theorems.antt). The stations are counted from 0.

-- each bit has R rounds of n·n bytes
unfoldable pub bit_at : ℕ → ℕ → ℕ → ℕ
bit_at n t p = p / n / n / rounds t

unfoldable pub round_at : ℕ → ℕ → ℕ → ℕ
round_at n t p = p / n / n % rounds t + 1

unfoldable pub from_at : ℕ → ℕ → ℕ
from_at n p = p / n % n

unfoldable pub to_at : ℕ → ℕ → ℕ
to_at n p = p % n

-- ---- the places to be written

-- "each byte of a marked sender that is not 255"
unfoldable pub to_write : (n marks : ℕ) → List ℕ → ℕ → Bool
to_write n marks table p = marked marks (from_at n p) && not (eqb (get_or table p 0) silence)

-- how many bytes of the tables are to be written
unfoldable pub how_many : Header → List ℕ → ℕ
how_many h table = count (tables_length h.line.n h.line.t h.w) (to_write h.line.n h.marks table)

-- the place below l that passes the test and has m places that pass it before it
unfoldable pub ranked : ℕ → (ℕ → Bool) → ℕ → ℕ
ranked zero q m = 0
ranked (suc l) q m = if q l && eqb (count l q) m then l else ranked l q m

-- the place of record m, counted from 1: m - 1 places are written before it
unfoldable pub place_written : Header → List ℕ → ℕ → ℕ
place_written h table m = ranked (tables_length h.line.n h.line.t h.w) (to_write h.line.n h.marks table) (m - 1)
