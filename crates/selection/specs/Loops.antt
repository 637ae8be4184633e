-- What the private functions do: for their contracts, and no part of what the public call promises.
use Rattle.std.specs.Prelude.{ℕ, ◌+◌, ◌*◌, ◌≤◌, ◌<◌, ◌≡◌, Bool, not, List, eqb, length, get_or, if◌then◌else◌}
use Rattle.line.specs.Count.{count}
use Rattle.line.specs.Ballot.{silence}
use Rattle.selection.specs.Places.{from_at}

-- ---- the table's parts

-- the n places from `at` on have station i, counted from 0, as their sender
abbrev pub Row : (n i at : ℕ) → Type 0
Row n i at = (j : ℕ) → j < n → from_at n (at + j) ≡ i

-- the n·n places from `at` on are a round's
abbrev pub Round : (n at : ℕ) → Type 0
Round n at = (i : ℕ) → i < n → Row n i (at + i * n)

-- a table of whole rounds, of as many stations as a line can have
pub record Rounds (n : ℕ) (table : List ℕ) : Type 0 where
  pub some : 1 ≤ n
  pub few : n ≤ 32
  pub how_many : ℕ
  pub whole : length table ≡ how_many * (n * n)

-- ---- counting

-- 1 where the byte is not silence
unfoldable pub spoken : ℕ → ℕ
spoken b = if eqb b silence then 0 else 1

-- whether the j-th byte is not silence
unfoldable pub speaks : List ℕ → ℕ → Bool
speaks row j = not (eqb (get_or row j 0) silence)

-- so many places to be written come between two
abbrev pub More : (q : ℕ → Bool) → (from to r : ℕ) → Type 0
More q from to r = count to q ≡ count from q + r
