-- Which rounds had a garbled ballot, at one station and in a run (document 02, request 4).
use Rattle.std.specs.Prelude.{ℕ, suc, ◌+◌, Bool, ◌&&◌, ltb, if◌then◌else◌}
use Rattle.line.specs.Count.{count}
use Rattle.line.specs.Line.{rounds}
use Rattle.line.specs.Ballot.{read_sender, read_first, read_second, read_king, is_garbled}
use Rattle.line.specs.declared.ballot.Ballot.{Ballot}
use Rattle.broadcast.specs.Exchange.{Row, Setting, first_row, second_row}
use Rattle.broadcast.specs.Broadcast.{Part, from_sender, first_of, second_of, from_king, part, speaks, sent}

-- ---- at one station

-- what a received byte was, by the part that its round is
unfoldable pub reading : Part → ℕ → Ballot
reading from_sender b = read_sender b
reading (first_of p) b = read_first b
reading (second_of p) b = read_second b
reading (from_king p) b = read_king b

-- of those who pass the test, how many have a garbled ballot in the row
unfoldable pub garbled_ballots : ℕ → (ℕ → Bool) → Part → Row → ℕ
garbled_ballots n from p row = count n (λ i. from i && is_garbled (reading p (row i)))

-- "at least one ballot it expected was garbled: from all in exchange rounds, else from the sender or the king.": from those who should speak
unfoldable pub some_garbled : ℕ → ℕ → Part → Row → Bool
some_garbled n sender_from_0 p row = ltb 0 (garbled_ballots n (speaks sender_from_0 p) p row)

-- ---- in a broadcast

module _ (S : Setting) (sender_from_0 value : ℕ) where
  -- what station j receives in round r
  unfoldable pub received : ℕ → ℕ → Row
  received r j = λ i. sent S sender_from_0 value r i j

  unfoldable pub garbled_in : ℕ → ℕ → Bool
  garbled_in r j = some_garbled S.n sender_from_0 (part r) (received r j)

  -- "A station counts the rounds in which": of the rounds 1 to R, those that m = 0 to R - 1 precede
  unfoldable pub garbled_rounds : ℕ → ℕ
  garbled_rounds j = count (rounds S.t) (λ m. garbled_in (suc m) j)

-- ---- in the exchange had alone, of its two rounds, in which all speak

module _ (S : Setting) (x : ℕ → ℕ) where
  unfoldable pub garbled_first : ℕ → Bool
  garbled_first j = some_garbled S.n 0 (first_of 0) (first_row S 1 x j)

  unfoldable pub garbled_second : ℕ → Bool
  garbled_second j = some_garbled S.n 0 (second_of 0) (second_row S 1 x j)

  unfoldable pub garbled_alone : ℕ → ℕ
  garbled_alone j = (if garbled_second j then 1 else 0) + (if garbled_first j then 1 else 0)
