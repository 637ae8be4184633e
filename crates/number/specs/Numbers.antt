-- The run of a recipe number (document 02, request 5): "Each bit is one broadcast, all with the same marks and sender".
use Rattle.std.specs.Prelude.{ℕ, ◌/◌, ◌%◌, List, []}
use Rattle.line.specs.Line.{table_length}
use Rattle.line.specs.Width.{bits, bit_of, tables_length, part_of}
use Rattle.broadcast.specs.Exchange.{Setting}
use Rattle.broadcast.specs.Bytes.{tabulate, setting, outcome_bytes, Run, log_byte, outcomes}
use Rattle.broadcast.specs.Theorems.{value_at, grade_at, flag_at, garbled_at}
use Rattle.number.specs.Digits.{number_of, smallest, any, largest}

-- what a rehearsal of a number is handed, in the documents' own numbers: the sender is from 1 to n
pub record NumberRun : Type 0 where
  pub n : ℕ
  pub t : ℕ
  pub T : ℕ
  pub sender : ℕ
  pub number : ℕ
  pub w : ℕ
  pub marks : ℕ
  pub tables : List ℕ

-- bit b's run: bit b of the number is sent, and bit b's table used
unfoldable pub bit_run : NumberRun → ℕ → Run
bit_run N b = record {
  n = N.n;
  t = N.t;
  T = N.T;
  sender = N.sender;
  value = bit_of N.number b;
  marks = N.marks;
  table = part_of (table_length N.n N.t) N.tables b;
}

-- the logs, one after another like the tables: the byte at k is byte k % size of bit k / size
unfoldable pub logs : NumberRun → List ℕ
logs N =
    let size = table_length N.n N.t in
    tabulate (tables_length N.n N.t N.w) (λ k. log_byte (bit_run N (k / size)) (k % size))

-- ---- what a station makes of its bits' outcomes: `results b` are bit b's outcome bytes, of all stations

unfoldable pub numbers : ℕ → (ℕ → List ℕ) → ℕ → ℕ
numbers w results i = number_of w (λ b. value_at (results b) i)

unfoldable pub grades : ℕ → (ℕ → List ℕ) → ℕ → ℕ
grades w results i = smallest w (λ b. grade_at (results b) i)

unfoldable pub flags : ℕ → (ℕ → List ℕ) → ℕ → ℕ
flags w results i = any w (λ b. flag_at (results b) i)

unfoldable pub counts : ℕ → (ℕ → List ℕ) → ℕ → ℕ
counts w results i = largest w (λ b. garbled_at (results b) i)

-- n stations and who of them is marked, which is all that outcome bytes take of a setting
unfoldable pub stations : ℕ → ℕ → Setting
stations n marks = setting n 0 0 marks []

-- the outcome bytes of w bits together; "A bad station is told by grade 255, since 255 can be a recipe.": its four bytes are 255
unfoldable pub gathered : (n marks w : ℕ) → (ℕ → List ℕ) → List ℕ
gathered n marks w results =
    outcome_bytes (stations n marks) (numbers w results) (grades w results) (flags w results) (counts w results)

-- of a number's run
unfoldable pub bit_outcomes : NumberRun → ℕ → List ℕ
bit_outcomes N b = outcomes (bit_run N b)

unfoldable pub number_outcomes : NumberRun → List ℕ
number_outcomes N = gathered N.n N.marks (bits N.w) (bit_outcomes N)
