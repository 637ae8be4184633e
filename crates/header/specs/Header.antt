-- The judgement of a header's numbers: causes 2 to 6 of document 01's table, each a test of its own, in the table's order, of one bit, and with 15 of a recipe
-- number (document 02, request 5); and of a length, cause 8.
use Rattle.std.specs.Prelude.{ℕ, ◌+◌, ◌*◌, ◌^◌, ◌≤◌, ◌<◌, ◌≡◌, Bool, false, not, ◌||◌, leb, ltb, eqb}
use Rattle.line.specs.Line.{most_stations, Fits}
use Rattle.line.specs.Width.{most_bits, bits}
use Rattle.line.specs.Marks.{marked, mark_beyond}
use Rattle.refusal.specs.Cause.{refused_if, ◌or_else◌}
use Rattle.refusal.specs.declared.cause.Cause.TheVariants.{StationCount, Thresholds, StationNumber, Value, MarkBeyond, Length, Width}
use Rattle.refusal.specs.Cause.{Verdict}

-- below low or above high
unfoldable pub outside : ℕ → ℕ → ℕ → Bool
outside low high x = ltb x low || ltb high x

-- "n outside 1 to 32"
unfoldable pub station_count : ℕ → Verdict
station_count n = refused_if (outside 1 most_stations n) StationCount

-- "t above T, or t + 2T not below n"
unfoldable pub exceeded : ℕ → ℕ → ℕ → Bool
exceeded n t T = ltb T t || leb n (t + 2 * T)

unfoldable pub thresholds : ℕ → ℕ → ℕ → Verdict
thresholds n t T = refused_if (exceeded n t T) Thresholds

-- "sender or own station outside 1 to n"
unfoldable pub station_number : ℕ → ℕ → Verdict
station_number n i = refused_if (outside 1 n i) StationNumber

-- "the value handed in [..], or an unmarked station's input, not 0 or 1": of one byte
unfoldable pub bit : ℕ → Verdict
bit v = refused_if (ltb 1 v) Value

-- "a mark beyond station n"
unfoldable pub marks_within : ℕ → ℕ → Verdict
marks_within n marks = refused_if (mark_beyond n marks) MarkBeyond

-- causes 2 and 3
unfoldable pub line_verdict : ℕ → ℕ → ℕ → Verdict
line_verdict n t T = station_count n or_else thresholds n t T

-- causes 2 to 6
unfoldable pub header_verdict : ℕ → ℕ → ℕ → ℕ → ℕ → ℕ → Verdict
header_verdict n t T sender value marks =
    line_verdict n t T
    or_else station_number n sender
    or_else bit value
    or_else marks_within n marks

-- ---- of a recipe number of w bits (request 5)

-- "w above 8 by 15"
unfoldable pub width : ℕ → Verdict
width w = refused_if (ltb most_bits w) Width

-- "A number of 2 to the power w or above is refused by 5"
unfoldable pub number_within : ℕ → ℕ → Verdict
number_within w number = refused_if (leb (2 ^ bits w) number) Value

-- 15, "right after the sheet's length, or first in a call without a sheet", then 2 to 6
unfoldable pub number_verdict : ℕ → ℕ → ℕ → ℕ → ℕ → ℕ → ℕ → Verdict
number_verdict n t T sender number w marks =
    width w
    or_else line_verdict n t T
    or_else station_number n sender
    or_else number_within w number
    or_else marks_within n marks

-- cause 8, of one length: "a lent table, log, outcome, input or row not of its exact length"
unfoldable pub exact_length : ℕ → ℕ → Verdict
exact_length wanted found = refused_if (not (eqb found wanted)) Length

-- a header that no cause refuses, in plain facts (`HeaderSound` and `HeaderAccepts`: it is accepted exactly then)
pub record Sound (n t T sender value marks : ℕ) : Type 0 where
  pub some : 1 ≤ n
  pub most : n ≤ most_stations
  pub fits : Fits n t T
  pub sender_low : 1 ≤ sender
  pub sender_high : sender ≤ n
  pub value_bit : value ≤ 1
  pub within : (i : ℕ) → n ≤ i → marked marks i ≡ false

-- and of a recipe number (`NumberSound` and `NumberAccepts`)
pub record SoundNumber (n t T sender number w marks : ℕ) : Type 0 where
  pub narrow : w ≤ most_bits
  pub some : 1 ≤ n
  pub most : n ≤ most_stations
  pub fits : Fits n t T
  pub sender_low : 1 ≤ sender
  pub sender_high : sender ≤ n
  pub small : number < 2 ^ bits w
  pub within : (i : ℕ) → n ≤ i → marked marks i ≡ false
