-- The statements that proofs/Theorems.antt proves, each under the same name in lower case.
use Rattle.std.specs.Prelude.{ℕ, ◌+◌, ◌-◌, ◌*◌, ◌^◌, ◌≤◌, ◌<◌, ◌≡◌, Bool, true, false, not, ◌&&◌, leb, ltb, eqb, if◌then◌else◌}
use Rattle.line.specs.Count.{count}
use Rattle.line.specs.Line.{most_stations, Fits, table_length, place, largest_table}
use Rattle.line.specs.Marks.{marked, mark_beyond, faults, marks_of}
use Rattle.line.specs.Ballot.{blank, silence, read_sender, read_first, read_second, read_king, is_garbled, sender_value, first_value, second_value, king_value}

-- ---- f

-- the f bad stations and the good ones make n: no mark beyond station n is counted
abbrev pub FaultsAndGood : Type 0
FaultsAndGood = (n : ℕ) (bad : ℕ → Bool) → faults n bad + count n (λ i. not (bad i)) ≡ n

-- "f counts the marked stations.": where no mark stands beyond station n, f is the number of all bits that are 1
abbrev pub FaultsAreMarks : Type 0
FaultsAreMarks =
    (n marks : ℕ) → n ≤ most_stations → mark_beyond n marks ≡ false → faults n (marked marks) ≡ count most_stations (marked marks)

-- ---- places and tables

-- "the byte for round r, from i, to j stands at ((r−1)·n + (i−1))·n + (j−1)", i and j from 1 as in the document
abbrev pub PlaceIs : Type 0
PlaceIs = (n r i j : ℕ) → place n r (i - 1) (j - 1) ≡ ((r - 1) * n + (i - 1)) * n + (j - 1)

-- in step from there: the next receiver's byte is the next one, the next sender's n bytes further, the next round's n·n
pub record PlaceSteps (n r i j : ℕ) : Type 0 where
  pub first : place n 1 0 0 ≡ 0
  pub next_receiver : place n r i (j + 1) ≡ place n r i j + 1
  pub next_sender : place n r (i + 1) j ≡ place n r i j + n
  pub next_round : 1 ≤ r → place n (r + 1) i j ≡ place n r i j + n * n

abbrev pub PlaceStepsLaw : Type 0
PlaceStepsLaw = (n r i j : ℕ) → PlaceSteps n r i j

-- "The largest has 36,864 bytes.": no accepted line has a longer table, and one has it
abbrev pub TableBound : Type 0
TableBound = (n t T : ℕ) → n ≤ most_stations → Fits n t T → table_length n t ≤ largest_table

abbrev pub TableReached : Type 0
TableReached = Fits 32 10 10 × (table_length 32 10 ≡ largest_table)

-- ---- marks

-- "a mark beyond station n" is there exactly if some station from n on, counted from 0, is marked
abbrev pub BeyondNone : Type 0
BeyondNone = (n marks i : ℕ) → mark_beyond n marks ≡ false → n ≤ i → marked marks i ≡ false

abbrev pub BeyondSome : Type 0
BeyondSome = (n marks : ℕ) → mark_beyond n marks ≡ true → (i : ℕ) × (n ≤ i) × (marked marks i ≡ true)

-- the marks of a test: bit i is that of station i, no bit beyond station n is 1, and the test of who is marked gives the marks back
pub record MarksAre (n : ℕ) (p : ℕ → Bool) : Type 0 where
  pub each : (i : ℕ) → i < n → marked (marks_of n p) i ≡ p i
  pub below : marks_of n p < 2 ^ n

abbrev pub MarksAreLaw : Type 0
MarksAreLaw = (n : ℕ) (p : ℕ → Bool) → MarksAre n p

abbrev pub MarksBack : Type 0
MarksBack = (n marks : ℕ) → mark_beyond n marks ≡ false → marks_of n (marked marks) ≡ marks

-- ---- the readings (request 4)

-- "A byte is garbled if it is not 255 and its round has no meaning for it; blank is garbled outside the second round of an exchange."
pub record GarbledWhere (b : ℕ) : Type 0 where
  pub sender : is_garbled (read_sender b) ≡ (ltb 1 b && not (eqb b silence))
  pub first : is_garbled (read_first b) ≡ (ltb 1 b && not (eqb b silence))
  pub second : is_garbled (read_second b) ≡ (ltb blank b && not (eqb b silence))
  pub king : is_garbled (read_king b) ≡ (ltb 1 b && not (eqb b silence))

abbrev pub GarbledWhereLaw : Type 0
GarbledWhereLaw = (b : ℕ) → GarbledWhere b

-- what the steps make of a byte is what they made of it before it was said which it was: 0 and 1 as they are, and for any other the default of document 01
-- and request 2
pub record ValuesStay (y b : ℕ) : Type 0 where
  pub sender : sender_value b ≡ (if leb b 1 then b else 0)
  pub first : first_value b ≡ (if leb b 1 then b else blank)
  pub second : second_value b ≡ (if leb b 1 then b else blank)
  pub king : king_value y (read_king b) ≡ (if leb b 1 then b else y)

abbrev pub ValuesStayLaw : Type 0
ValuesStayLaw = (y b : ℕ) → ValuesStay y b
