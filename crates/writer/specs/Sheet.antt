-- The written sheet (document 01, "The run sheet"; document 02, request 1): its header, handed in as the list of its bytes, then its records. Crate record has the bytes
-- of each.
use Rattle.std.specs.Prelude.{ℕ, zero, suc, ◌+◌, ◌*◌, List, [], ◌++◌, ltb, get_or, if◌then◌else◌}
use Rattle.header.specs.declared.Header.{Header}
use Rattle.layout.specs.Layout.{header}
use Rattle.record.specs.Bytes.{header_bytes, eight}
use Rattle.selection.specs.Places.{bit_at, round_at, from_at, to_at, how_many, place_written}

-- "chained 1, 2, 3", and "zero ends the chain": what follows record m of k
unfoldable pub next_index : ℕ → ℕ → ℕ
next_index k m = if ltb m k then m + 1 else 0

-- the record of the byte at the place p, followed by the record with index i
unfoldable pub record_of : ℕ → ℕ → List ℕ → ℕ → ℕ → List ℕ
record_of n t table p i = eight (round_at n t p) (from_at n p + 1) (to_at n p + 1) (get_or table p 0) i (bit_at n t p)

-- record m of k
unfoldable pub record_bytes : Header → List ℕ → ℕ → ℕ → List ℕ
record_bytes h table k m = record_of h.line.n h.line.t table (place_written h table m) (next_index k m)

-- records 1 to m of k, one after the other
unfoldable pub records_bytes : Header → List ℕ → ℕ → ℕ → List ℕ
records_bytes h table k zero = []
records_bytes h table k (suc m) = records_bytes h table k m ++ record_bytes h table k (suc m)

-- ---- the sheet: the header, then a record for each byte to be written

unfoldable pub sheet : List ℕ → List ℕ → List ℕ
sheet h table =
    let k = how_many (header h) table in
    header_bytes h k ++ records_bytes (header h) table k k

-- "a sheet buffer [..] of the needed length"
unfoldable pub sheet_length : List ℕ → List ℕ → ℕ
sheet_length h table = 12 + 8 * how_many (header h) table
