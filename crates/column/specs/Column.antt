-- A round's bytes to one receiver, and how many of them are what is wanted of it. Stations are counted from 0. Bytes are laid out like a run table.
use Rattle.std.specs.Prelude.{ℕ, ◌+◌, ◌*◌, ◌≤◌, ◌<◌, List, ◌&&◌, eqb, ltb, leb, length, get_or, if◌then◌else◌}
use Rattle.line.specs.Count.{count}
use Rattle.line.specs.Line.{has_round}

-- byte i is the one from station i to j, in the round that starts at `start`
unfoldable pub column : List ℕ → ℕ → ℕ → ℕ → ℕ → ℕ
column bytes start n j i = get_or bytes (start + i * n + j) 0

-- an array's byte at each place
unfoldable pub each_of : List ℕ → ℕ → ℕ
each_of l j = get_or l j 0

-- how many of the bytes from the first m stations to j are the one wanted of j
unfoldable pub counted : List ℕ → ℕ → ℕ → (ℕ → ℕ) → ℕ → ℕ → ℕ
counted bytes start n wanted m j = count m (λ i. eqb (column bytes start n j i) (wanted j))

-- from all n stations, 0 where the bytes have no such round
unfoldable pub count_of : ℕ → List ℕ → ℕ → (ℕ → ℕ) → ℕ → ℕ
count_of n bytes start wanted j = if has_round n start (length bytes) then counted bytes start n wanted n j else 0

-- the byte from station i to j, 0 where the bytes have no such round or the line no such station
unfoldable pub sent_by : ℕ → List ℕ → ℕ → ℕ → ℕ → ℕ
sent_by n bytes start i j = if ltb i n && has_round n start (length bytes) then column bytes start n j i else 0

-- byte j of the 32 from a on, 0 where there are fewer
unfoldable pub block_at : List ℕ → ℕ → ℕ → ℕ
block_at bytes a j = if leb (a + 32) (length bytes) then get_or bytes (a + j) 0 else 0

-- ---- for private functions

unfoldable pub hit : ℕ → ℕ → ℕ
hit b v = if eqb b v then 1 else 0

-- one more at each place where the row's byte is the one wanted there
unfoldable pub more : List ℕ → (ℕ → ℕ) → (ℕ → ℕ) → ℕ → ℕ
more counts row wanted j = get_or counts j 0 + hit (row j) (wanted j)

-- the first m bytes of l are at most b
abbrev pub AtMost : ℕ → ℕ → List ℕ → Type 0
AtMost b m l = (j : ℕ) → j < m → get_or l j 0 ≤ b
