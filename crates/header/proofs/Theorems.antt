-- The theorems: each statement of specs/Theorems.antt, under its name, and the law that proves it. Assumes nothing.
use Rattle.header.specs.Theorems.{HeaderSound, HeaderAccepts, NumberSound, NumberAccepts, EachBitSound}
use Rattle.header.proofs.HeaderLaws as header

pub header_sound : HeaderSound
header_sound = header.header_sound

pub header_accepts : HeaderAccepts
header_accepts = header.header_accepts

pub number_sound : NumberSound
number_sound = header.number_sound

pub number_accepts : NumberAccepts
number_accepts = header.number_verdict_accepts

pub each_bit_sound : EachBitSound
each_bit_sound = header.bit_sound
