-- The chain of a sheet's records (document 01, "The run sheet" and causes 9 and 10), as the sequence of the indices that it reaches.
use Rattle.std.specs.Prelude.{ℕ, zero, suc, ◌≤◌, ◌<◌, ◌≡◌, Bool, ◌&&◌, List, leb, if◌then◌else◌}
use Rattle.layout.specs.Layout.{first, records, next}

-- the index of a record: from 1 to k
pub record Record (s : List ℕ) (i : ℕ) : Type 0 where
  pub low : 1 ≤ i
  pub high : i ≤ records s

unfoldable pub is_record : List ℕ → ℕ → Bool
is_record s i = leb 1 i && leb i (records s)

-- "Records are chained by the next index and zero ends the chain.": what follows the index i. Where no record stands, at 0 and above k, nothing
-- more is reached.
unfoldable pub after : List ℕ → ℕ → ℕ
after s i = if is_record s i then next s i else i

-- the chain: the index at its position m, the first index being at position 0
unfoldable pub reached : List ℕ → ℕ → ℕ
reached s zero = first s
reached s (suc m) = after s (reached s m)

-- "the chain reaches an index above k"
pub record Leaves (s : List ℕ) : Type 0 where
  pub where_it_does : ℕ
  pub above : records s < reached s where_it_does

-- "the chain reaches a record again": one record stands at two positions
pub record Again (s : List ℕ) : Type 0 where
  pub early : ℕ
  pub late : ℕ
  pub order : early < late
  pub a_record : Record s (reached s early)
  pub same : reached s late ≡ reached s early

-- "zero ends the chain", after m records
pub record Ends (s : List ℕ) (m : ℕ) : Type 0 where
  pub chained : (a : ℕ) → a < m → Record s (reached s a)
  pub zero_there : reached s m ≡ 0

-- What becomes of a chain, with the positions that show it. Every chain has a fate (`HasFate` of Theorems.antt), of one kind only (`OnlyOne`); whichever positions
-- show it, verdict and table are the same (`OneFate`).
pub data Fate (s : List ℕ) : Type 0 where
  leaves : Leaves s → Fate s
  again : Again s → Fate s
  ends : (m : ℕ) → Ends s m → Fate s
