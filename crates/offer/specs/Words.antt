-- An offer as a number of 64 bits, for C.
use Rattle.std.specs.Prelude.{ℕ, ◌+◌, ◌*◌, ◌/◌, ◌%◌, ltb, if◌then◌else◌}
use Rattle.offer.specs.declared.Offer.{Offer}

-- six bytes, the lowest first: round, value, z, grade and the count of garbled rounds, as in a state; then the ballot
abbrev pub offer_word : Offer → ℕ
offer_word o =
    o.round
    + 256 * o.value
    + 65536 * o.z
    + 16777216 * o.grade
    + 4294967296 * o.garbled
    + 1099511627776 * o.ballot

unfoldable pub six_bytes : ℕ → Offer
six_bytes word = record {
  round = word % 256;
  value = word / 256 % 256;
  z = word / 65536 % 256;
  grade = word / 16777216 % 256;
  garbled = word / 4294967296 % 256;
  ballot = word / 1099511627776 % 256;
}

-- the offer that any 64 bits are: none has anything above the six bytes, and such a number is read as zeros, as no state that follows has round 0
-- (`WordComparedWhole`)
unfoldable pub offer_in : ℕ → Offer
offer_in word = if ltb word 281474976710656 then six_bytes word else six_bytes 0
