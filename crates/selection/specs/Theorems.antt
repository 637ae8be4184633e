-- What is shown of the definitions. Each statement has a name here, and proofs/Theorems.antt has the law that proves it.
use Rattle.std.specs.Prelude.{ℕ, ◌+◌, ◌*◌, ◌≤◌, ◌<◌, ◌≡◌, true, List}
use Rattle.line.specs.Count.{count}
use Rattle.line.specs.Line.{rounds, table_length, place}
use Rattle.line.specs.Width.{bits, tables_length}
use Rattle.header.specs.declared.Header.{Header}
use Rattle.selection.specs.Places.{bit_at, round_at, from_at, to_at, to_write, how_many, place_written}

-- ---- the places

-- a place tells its bit, round, sender and receiver, and they tell the place
pub record Told (n t w p : ℕ) : Type 0 where
  pub place_is : bit_at n t p * table_length n t + place n (round_at n t p) (from_at n p) (to_at n p) ≡ p
  pub bit_below : bit_at n t p < bits w
  pub round_low : 1 ≤ round_at n t p
  pub round_high : round_at n t p ≤ rounds t
  pub from_below : from_at n p < n
  pub to_below : to_at n p < n

abbrev pub PlaceTold : Type 0
PlaceTold = (n t w p : ℕ) → p < tables_length n t w → Told n t w p

-- "one record for each byte of a marked sender that is not 255, by round, then from, then to", and bit by bit
pub record InOrder (h : Header) (table : List ℕ) : Type 0 where
  -- every record's place is one to be written
  pub is_one : (m : ℕ) → 1 ≤ m → m ≤ how_many h table → to_write h.line.n h.marks table (place_written h table m) ≡ true
  pub inside : (m : ℕ) → 1 ≤ m → m ≤ how_many h table → place_written h table m < tables_length h.line.n h.line.t h.w
  -- every place to be written is one record's: that of the record after all the places before it
  pub all : (p : ℕ) → p < tables_length h.line.n h.line.t h.w → to_write h.line.n h.marks table p ≡ true
      → (count p (to_write h.line.n h.marks table) < how_many h table)
      × (place_written h table (count p (to_write h.line.n h.marks table) + 1) ≡ p)
  -- and they increase
  pub increasing : (m l : ℕ) → 1 ≤ m → m < l → l ≤ how_many h table → place_written h table m < place_written h table l

abbrev pub PlacesInOrder : Type 0
PlacesInOrder = (h : Header) (table : List ℕ) → InOrder h table
