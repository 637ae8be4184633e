-- The theorems: each statement of specs/Theorems.antt, under its name, and the law that proves it. Assumes nothing.
use Rattle.number.specs.Theorems.{SameNumberLaw, NumberDigits, Demand3OfNumbers, NumberOutcomeBytesLaw, NoneMarkedNoneGarbled, BitBuffersLaw, OneBit}
use Rattle.number.proofs.DigitLaws as digit
use Rattle.number.proofs.BufferLaws as buffer
use Rattle.number.proofs.NumberLaws.{demand_3_number}

pub same_number : SameNumberLaw
same_number = digit.same_number

pub number_digits : NumberDigits
number_digits = digit.digits

pub demand_3_of_numbers : Demand3OfNumbers
demand_3_of_numbers = demand_3_number

pub number_outcome_bytes : NumberOutcomeBytesLaw
number_outcome_bytes = buffer.number_bytes

pub none_marked_none_garbled : NoneMarkedNoneGarbled
none_marked_none_garbled = buffer.none_garbled

pub bit_buffers : BitBuffersLaw
bit_buffers = buffer.bit_buffers

pub one_bit : OneBit
one_bit = buffer.one_bit
