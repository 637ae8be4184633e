-- A bit's outcomes added to those of the bits below it (document 02, request 5), of any bytes. Station i is counted from 0.
use Rattle.std.specs.Prelude.{ℕ, ◌+◌, ◌*◌, ◌/◌, ◌%◌, ◌^◌, List, eqb, length, if◌then◌else◌}
use Rattle.line.specs.Line.{outcome_size}
use Rattle.broadcast.specs.Station.{at}
use Rattle.broadcast.specs.Bytes.{tabulate, pick}
use Rattle.broadcast.specs.Theorems.{value_at, grade_at, flag_at, garbled_at}
use Rattle.number.specs.Digits.{smaller, either, larger}

-- the number m with d at bit b, as a byte
unfoldable pub with_bit : ℕ → ℕ → ℕ → ℕ
with_bit b d m = (m + d * 2 ^ b) % 256

-- byte d of station i: `part` has bit b's outcomes, `below` those of the bits below. "A bad station is told by grade 255", and keeps its bytes
unfoldable pub joined : ℕ → List ℕ → List ℕ → ℕ → ℕ → ℕ
joined b part below i d =
    if eqb (grade_at below i) 255 then at below (outcome_size * i + d)
    else pick
    (with_bit b (value_at part i) (value_at below i))
    (smaller (grade_at part i) (grade_at below i))
    (either (flag_at part i) (flag_at below i))
    (larger (garbled_at part i) (garbled_at below i))
    d

unfoldable pub added_byte : ℕ → List ℕ → List ℕ → ℕ → ℕ
added_byte b part below k = joined b part below (k / outcome_size) (k % outcome_size)

-- all of them
unfoldable pub added : ℕ → List ℕ → List ℕ → List ℕ
added b part below = tabulate (length below) (added_byte b part below)

-- bit 0 has none below it: its outcomes are the first
unfoldable pub with_bits_below : ℕ → List ℕ → List ℕ → List ℕ
with_bits_below b part below = if eqb b 0 then part else added b part below
