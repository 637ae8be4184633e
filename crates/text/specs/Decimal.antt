-- The bytes of a text: a space, a newline, a digit, a number in decimal.
use Rattle.std.specs.Prelude.{ℕ, zero, suc, ◌+◌, ◌/◌, ◌%◌, List, [], ◌∷◌, ◌++◌, ltb, if◌then◌else◌}

abbrev pub newline : ℕ
newline = 10

abbrev pub space : ℕ
space = 32

-- the byte of a digit: that of 0 is 48
abbrev pub digit : ℕ → ℕ
digit d = 48 + d

-- a number in decimal without leading zeros; every number of a listing is below 1,000
unfoldable pub decimal : ℕ → List ℕ
decimal x =
    if ltb x 10
    then digit x ∷ []
    else (if ltb x 100
    then digit (x / 10) ∷ digit (x % 10) ∷ []
    else digit (x / 100) ∷ digit (x / 10 % 10) ∷ digit (x % 10) ∷ [])

-- ---- a number of any size

-- its digits, the last one last, in so many turns
unfoldable pub digits : ℕ → ℕ → List ℕ
digits zero x = []
digits (suc turns) x = if ltb x 10 then digit x ∷ [] else (digits turns (x / 10) ++ digit (x % 10) ∷ [])

-- in more turns than it can have digits; below 1,000 it is `decimal` (`DecimalNumeral`)
unfoldable pub numeral : ℕ → List ℕ
numeral x = digits (suc x) x
