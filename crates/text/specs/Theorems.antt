-- What is shown of the definitions. Each statement has a name here, and proofs/Theorems.antt has the law that proves it.
use Rattle.std.specs.Prelude.{ℕ, ◌+◌, ◌-◌, ◌*◌, ◌≤◌, ◌<◌, ◌≡◌, List, [], ◌∷◌, length, get_or}
use Rattle.text.specs.Decimal.{decimal, numeral}
use Rattle.text.specs.Laid.{laid}

-- ---- numbers

-- bytes of digits read on from a number: ten times what was read, and the digit
unfoldable pub read_on : ℕ → List ℕ → ℕ
read_on x [] = x
read_on x (b ∷ bytes) = read_on (10 * x + (b - 48)) bytes

abbrev pub read_decimal : List ℕ → ℕ
read_decimal bytes = read_on 0 bytes

-- every byte is a digit's, from 48 to 57
pub record Digits (bytes : List ℕ) : Type 0 where
  pub each : (k : ℕ) → k < length bytes → (48 ≤ get_or bytes k 0) × (get_or bytes k 0 ≤ 57)

-- a text that reads back as x, without leading zeros
pub record ReadsBack (x : ℕ) (bytes : List ℕ) : Type 0 where
  pub same : read_decimal bytes ≡ x
  pub some : 1 ≤ length bytes
  pub digits : Digits bytes
  pub no_leading_zero : get_or bytes 0 0 ≡ 48 → x ≡ 0

-- every number of a listing does
abbrev pub DecimalReadsBack : Type 0
DecimalReadsBack = (x : ℕ) → x < 1000 → ReadsBack x (decimal x)

-- a number of any size does, and below 1,000 it is the same text
abbrev pub NumeralReadsBack : Type 0
NumeralReadsBack = (x : ℕ) → ReadsBack x (numeral x)

abbrev pub DecimalNumeral : Type 0
DecimalNumeral = (x : ℕ) → x < 1000 → decimal x ≡ numeral x

-- ---- in a lent buffer

-- every byte of a buffer in which others are laid from the place `at` on
pub record Lies (buffer : List ℕ) (at : ℕ) (bytes : List ℕ) : Type 0 where
  pub size : length (laid buffer at bytes) ≡ length buffer
  pub before : (k : ℕ) → k < at → get_or (laid buffer at bytes) k 0 ≡ get_or buffer k 0
  pub inside : (k : ℕ) → k < length bytes → at + k < length buffer → get_or (laid buffer at bytes) (at + k) 0 ≡ get_or bytes k 0
  pub after : (k : ℕ) → at + length bytes ≤ k → get_or (laid buffer at bytes) k 0 ≡ get_or buffer k 0

abbrev pub LaidBytes : Type 0
LaidBytes = (buffer : List ℕ) (at : ℕ) (bytes : List ℕ) → Lies buffer at bytes
