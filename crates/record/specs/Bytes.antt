-- The bytes of a header and of a record as they are written.
use Rattle.std.specs.Prelude.{ℕ, ◌/◌, ◌%◌, List, [], ◌∷◌, eqb, if◌then◌else◌}
use Rattle.layout.specs.Layout.{byte}

-- "Two-byte and four-byte numbers are low byte first."
unfoldable pub low : ℕ → ℕ
low x = x % 256

unfoldable pub high : ℕ → ℕ
high x = x / 256

-- "The first index handed in is not looked at; the sheet has 1 there, or 0 without records.": of k records
unfoldable pub first_index : ℕ → ℕ
first_index k = if eqb k 0 then 0 else 1

-- the header's twelve bytes as they were handed in, but for the first index, where k records follow
unfoldable pub header_bytes : List ℕ → ℕ → List ℕ
header_bytes h k =
    byte h 0 ∷ byte h 1 ∷ byte h 2 ∷ byte h 3 ∷ byte h 4 ∷ byte h 5
    ∷ low (first_index k) ∷ high (first_index k)
    ∷ byte h 8 ∷ byte h 9 ∷ byte h 10 ∷ byte h 11 ∷ []

-- "round, from, to, ballot, next index (two bytes)", and request 5: "record byte 6 the bit", "byte 7 to be zero"
unfoldable pub eight : ℕ → ℕ → ℕ → ℕ → ℕ → ℕ → List ℕ
eight round from to ballot next bit = round ∷ from ∷ to ∷ ballot ∷ low next ∷ high next ∷ bit ∷ 0 ∷ []
