-- The graded exchange (document 01, "The graded exchange"; document 02, requests 2 and 6; source 001, Protocol 1).
use Rattle.std.specs.Prelude.{ℕ, ◌+◌, ◌-◌, Bool, leb, ltb, eqb, if◌then◌else◌}
use Rattle.line.specs.Count.{count}
use Rattle.line.specs.Ballot.{blank, first_value, second_value}

-- ---- at one station

-- what a station receives in one round: row i is the byte from station i
abbrev pub Row : Type 0
Row = ℕ → ℕ

-- how many of the n bytes of a row are read as v
unfoldable pub tally : (ℕ → ℕ) → ℕ → ℕ → Row → ℕ
tally read n v row = count n (λ i. eqb (read (row i)) v)

-- step 1 (001: 2): how many ballots of the first round equal v, 0 or 1, and how many count for neither value (v = blank)
unfoldable pub firsts : ℕ → ℕ → Row → ℕ
firsts n v row = tally first_value n v row

-- step 2 (001: 3), of c, how many ballots equal x: "If at least n−T ballots, its own included, equal its x, then z = x, otherwise z is blank."
unfoldable pub z_from : ℕ → ℕ → ℕ → ℕ → ℕ
z_from n T x c = if leb (n - T) c then x else blank

unfoldable pub z_of : ℕ → ℕ → ℕ → Row → ℕ
z_of n T x row = z_from n T x (firsts n x row)

-- steps 3 and 4 (001: 5): a, the zeros of the second round (v = 0), b, the ones (v = 1), and the blanks (v = blank)
unfoldable pub seconds : ℕ → ℕ → Row → ℕ
seconds n v row = tally second_value n v row

-- step 4, as source 001 has it (6: "if |U⁰| ≥ |U¹| then y := 0 else y := 1"). Document 01 had "y = 0 if a exceeds b, otherwise y = 1."; request 6: "In step 4
-- equal counts now give 0"
unfoldable pub y_from : ℕ → ℕ → ℕ
y_from a b = if leb b a then 0 else 1

unfoldable pub y_of : ℕ → Row → ℕ
y_of n row = y_from (seconds n 0 row) (seconds n 1 row)

-- "the count for y", of a and b
unfoldable pub for_y : ℕ → ℕ → ℕ
for_y a b = if eqb (y_from a b) 0 then a else b

-- step 5 (001: 7 to 9): "The grade is 2 if the count for y is at least n−t, else 1 if it is at least n−T, else 0."
unfoldable pub grade_of : ℕ → ℕ → ℕ → ℕ → ℕ
grade_of n t T c = if leb (n - t) c then 2 else (if leb (n - T) c then 1 else 0)

-- "the flag is 1 when the grade is below 2"
unfoldable pub flag_of : ℕ → ℕ
flag_of g = if ltb g 2 then 1 else 0

-- ---- at all stations

-- Where an exchange or a broadcast takes place: n, t and T; who is bad; and table r i j, the table's byte for round r, from i, to j.
pub record Setting : Type 0 where
  pub n : ℕ
  pub t : ℕ
  pub T : ℕ
  pub bad : ℕ → Bool
  pub table : ℕ → ℕ → ℕ → ℕ

-- what i sends to j in round r, where the steps make it send b: "only a marked sender's bytes are used, every good station's ballots are
-- what the steps make them"
unfoldable pub sends : Setting → ℕ → ℕ → ℕ → ℕ → ℕ
sends S r i j b = if S.bad i then S.table r i j else b

-- an exchange in the rounds r and r + 1, which each station i enters with x i: what station j receives and makes of it
module _ (S : Setting) (r : ℕ) (x : ℕ → ℕ) where
  unfoldable pub first_row : ℕ → Row
  first_row j = λ i. sends S r i j (x i)

  unfoldable pub z : ℕ → ℕ
  z j = z_of S.n S.T (x j) (first_row j)

  unfoldable pub second_row : ℕ → Row
  second_row j = λ i. sends S (r + 1) i j (z i)

  unfoldable pub y : ℕ → ℕ
  y j = y_of S.n (second_row j)

  unfoldable pub grade : ℕ → ℕ
  grade j = grade_of S.n S.t S.T (seconds S.n (y j) (second_row j))
