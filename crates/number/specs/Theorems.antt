-- The statements that proofs/Theorems.antt proves, each under the same name in lower case, for every w together. Station i is counted from 0.
use Rattle.std.specs.Prelude.{ℕ, ◌+◌, ◌*◌, ◌^◌, ◌≤◌, ◌<◌, ◌≡◌, true, false, length}
use Rattle.line.specs.Line.{Fits, from_0, rounds, table_length, outcomes_length, place}
use Rattle.line.specs.Marks.{marked}
use Rattle.line.specs.Width.{bits, bit_of, tables_length, part_of}
use Rattle.broadcast.specs.Exchange.{flag_of}
use Rattle.broadcast.specs.Station.{at}
use Rattle.broadcast.specs.Bytes.{Run, log, outcomes}
use Rattle.broadcast.specs.Guarantees.{Good, TwoThreshold}
use Rattle.broadcast.specs.Theorems.{value_at, grade_at, flag_at, garbled_at}
use Rattle.number.specs.Digits.{number_of}
use Rattle.number.specs.Numbers.{NumberRun, bit_run, logs, number_outcomes}

-- ---- numbers and their bits

-- two numbers built from bits are the same exactly if all bits are
pub record SameNumber (w : ℕ) (d e : ℕ → ℕ) : Type 0 where
  pub from_bits : ((b : ℕ) → b < w → d b ≡ e b) → number_of w d ≡ number_of w e
  pub to_bits : number_of w d ≡ number_of w e → (b : ℕ) → b < w → d b ≡ e b

abbrev pub SameNumberLaw : Type 0
SameNumberLaw = (w : ℕ) (d e : ℕ → ℕ) → ((b : ℕ) → b < w → d b ≤ 1) → ((b : ℕ) → b < w → e b ≤ 1) → SameNumber w d e

-- a number of w bits is built from its bits, and what is built from w bits has these and is below 2^w
pub record HasDigits (w : ℕ) : Type 0 where
  pub rebuilt : (m : ℕ) → m < 2 ^ w → number_of w (bit_of m) ≡ m
  pub below : (d : ℕ → ℕ) → ((b : ℕ) → b < w → d b ≤ 1) → number_of w d < 2 ^ w
  pub bit : (d : ℕ → ℕ) → ((b : ℕ) → b < w → d b ≤ 1) → (b : ℕ) → b < w → bit_of (number_of w d) b ≡ d b

abbrev pub NumberDigits : Type 0
NumberDigits = (w : ℕ) → HasDigits w

-- ---- demand 3 of a number: "With two good bonders at different numbers every good one must be flagged while f is at most T, and the other guarantees are
-- wanted of the number too, shown for every w together"

-- of the outcome bytes, where no cause refuses the number ("A number of 2 to the power w or above is refused")
abbrev pub Demand3OfNumbers : Type 0
Demand3OfNumbers =
    (N : NumberRun) → Fits N.n N.t N.T → N.number < 2 ^ bits N.w
    → TwoThreshold (2 ^ bits N.w) N.n N.t N.T (marked N.marks) (from_0 N.sender) N.number
    (value_at (number_outcomes N)) (flag_at (number_outcomes N))

-- ---- the bytes

-- what a number's outcome bytes can be, and how they come from the bits' own
pub record NumberOutcomeBytes (N : NumberRun) : Type 0 where
  pub size : length (number_outcomes N) ≡ outcomes_length N.n
  pub good : (i : ℕ) → Good N.n (marked N.marks) i
      → (value_at (number_outcomes N) i < 2 ^ bits N.w) × (grade_at (number_outcomes N) i ≤ 2)
      × (flag_at (number_outcomes N) i ≡ flag_of (grade_at (number_outcomes N) i)) × (garbled_at (number_outcomes N) i ≤ rounds N.t)
  -- each bit of the number decided is that bit's value byte
  pub bit : (i : ℕ) → Good N.n (marked N.marks) i → (b : ℕ) → b < bits N.w
      → bit_of (value_at (number_outcomes N) i) b ≡ value_at (outcomes (bit_run N b)) i
  -- no bit's grade is smaller, and no bit's count larger
  pub grade_least : (i : ℕ) → Good N.n (marked N.marks) i → (b : ℕ) → b < bits N.w
      → grade_at (number_outcomes N) i ≤ grade_at (outcomes (bit_run N b)) i
  pub count_most : (i : ℕ) → Good N.n (marked N.marks) i → (b : ℕ) → b < bits N.w
      → garbled_at (outcomes (bit_run N b)) i ≤ garbled_at (number_outcomes N) i
  -- "A bad station is told by grade 255, since 255 can be a recipe."
  pub marked_bytes : (i : ℕ) → i < N.n → marked N.marks i ≡ true
      → (value_at (number_outcomes N) i ≡ 255) × (grade_at (number_outcomes N) i ≡ 255) × (flag_at (number_outcomes N) i ≡ 255)
      × (garbled_at (number_outcomes N) i ≡ 255)

abbrev pub NumberOutcomeBytesLaw : Type 0
NumberOutcomeBytesLaw = (N : NumberRun) → NumberOutcomeBytes N

-- where no station is marked, every count is 0
abbrev pub NoneMarkedNoneGarbled : Type 0
NoneMarkedNoneGarbled =
    (N : NumberRun) → ((i : ℕ) → i < N.n → marked N.marks i ≡ false) → (j : ℕ) → j < N.n → garbled_at (number_outcomes N) j ≡ 0

-- "The buffers hold the bits' tables one after another, bit 0 first"
pub record BitBuffers (N : NumberRun) : Type 0 where
  pub table : (b r i j : ℕ) → 1 ≤ r → r ≤ rounds N.t → i < N.n → j < N.n
      → at (bit_run N b).table (place N.n r i j) ≡ at N.tables (b * table_length N.n N.t + place N.n r i j)
  pub logs_size : length (logs N) ≡ tables_length N.n N.t N.w
  pub log_part : (b : ℕ) → b < bits N.w → part_of (table_length N.n N.t) (logs N) b ≡ log (bit_run N b)

abbrev pub BitBuffersLaw : Type 0
BitBuffersLaw = (N : NumberRun) → BitBuffers N

-- one bit, w being 1 or 0, is the broadcast as it was
abbrev pub as_run : NumberRun → Run
as_run N =
    record { n = N.n; t = N.t; T = N.T; sender = N.sender; value = N.number; marks = N.marks; table = N.tables }

abbrev pub OneBit : Type 0
OneBit =
    (N : NumberRun) → N.w ≤ 1 → N.number ≤ 1 → length N.tables ≡ table_length N.n N.t
    → (number_outcomes N ≡ outcomes (as_run N)) × (logs N ≡ log (as_run N))
