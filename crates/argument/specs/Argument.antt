-- What an argument's bytes are: a number in decimal, or something else.
use Rattle.std.specs.Prelude.{ℕ, zero, suc, ◌+◌, ◌-◌, ◌*◌, min, Bool, ◌&&◌, List, leb, length, get_or, if◌then◌else◌, Option, Some, None}
use Rattle.line.specs.Count.{all}

-- the byte of a digit, from 48 to 57
unfoldable pub digit_byte : ℕ → Bool
digit_byte b = leb 48 b && leb b 57

-- the number that the first m bytes make
unfoldable pub read : List ℕ → ℕ → ℕ
read bytes zero = 0
read bytes (suc m) = 10 * read bytes m + (get_or bytes m 0 - 48)

-- one digit at least, and nothing but digits; above 255 it is told as 255
unfoldable pub argument : List ℕ → Option ℕ
argument bytes =
    if leb 1 (length bytes) && all (length bytes) (λ k. digit_byte (get_or bytes k 0))
    then Some (min (read bytes (length bytes)) 255)
    else None
