-- The proof of each statement of specs/Theorems.antt.
use Rattle.generator.specs.Theorems.{BallotOfFour, StepsCountedLaw, GeneratedBytes, GeneratedLength, BitsRunOn}
use Rattle.generator.proofs.TableLaws as table

pub ballot_of_four : BallotOfFour
ballot_of_four = table.ballot_of_four

pub steps_counted : StepsCountedLaw
steps_counted = table.steps_counted

pub generated_bytes : GeneratedBytes
generated_bytes = table.generated_byte

pub generated_length : GeneratedLength
generated_length = table.generated_length

pub bits_run_on : BitsRunOn
bits_run_on = table.bits_run_on
