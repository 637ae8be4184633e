-- The line of n stations with the thresholds t and T (document 01, "Names").
-- In the definitions of a run and of its tables stations are counted from 0: station i is the document's station i + 1. What is handed in keeps the
-- document's numbers, from 1: a sender, an own number, a record's from and to. Where one of these is counted from 0 its name says so. Rounds are
-- numbered from 1, as in the document.
use Rattle.std.specs.Prelude.{ℕ, ◌+◌, ◌-◌, ◌*◌, ◌≤◌, ◌<◌, Bool, ◌&&◌, leb}

-- "n: stations, 1 to 32."
abbrev pub most_stations : ℕ
most_stations = 32

-- "t and T: thresholds, t at most T, t + 2T below n."
pub record Fits (n t T : ℕ) : Type 0 where
  pub order : t ≤ T
  pub room : t + 2 * T < n

-- the document's station i, counted from 0
abbrev pub from_0 : ℕ → ℕ
from_0 i = i - 1

-- "R = 3t + 6 rounds."
abbrev pub rounds : ℕ → ℕ
rounds t = 3 * t + 6

-- "A run table has R·n·n bytes"
abbrev pub table_length : ℕ → ℕ → ℕ
table_length n t = rounds t * n * n

-- "the byte for round r, from i, to j stands at ((r−1)·n + (i−1))·n + (j−1)": i and j are counted from 0 here
unfoldable pub place : ℕ → ℕ → ℕ → ℕ → ℕ
place n r i j = ((r - 1) * n + i) * n + j

-- whether a round of n stations has its n·n bytes from `start` on in a buffer of this length, and n is at most 32
unfoldable pub has_round : ℕ → ℕ → ℕ → Bool
has_round n start size = leb n most_stations && leb (start + n * n) size

-- "The largest has 36,864 bytes."
abbrev pub largest_table : ℕ
largest_table = 36864

-- "a ballot table of 2·n·n bytes laid out like a run table": that of one graded exchange
abbrev pub exchange_length : ℕ → ℕ
exchange_length n = 2 * n * n

-- request 4: "The outcome becomes four bytes a station": value, grade, flag, and how many rounds had a garbled ballot
abbrev pub outcome_size : ℕ
outcome_size = 4

abbrev pub outcomes_length : ℕ → ℕ
outcomes_length n = outcome_size * n

-- the longest outcomes
abbrev pub largest_outcomes : ℕ
largest_outcomes = outcomes_length most_stations
