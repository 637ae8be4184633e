-- The theorems: each statement of specs/Theorems.antt, under its name, and the law that proves it. Assumes nothing.
use Rattle.text.specs.Theorems.{DecimalReadsBack, NumeralReadsBack, DecimalNumeral, LaidBytes}
use Rattle.text.proofs.DecimalLaws as decimal
use Rattle.text.proofs.LaidLaws as laid

pub decimal_reads_back : DecimalReadsBack
decimal_reads_back = decimal.reads_back

pub numeral_reads_back : NumeralReadsBack
numeral_reads_back = decimal.numeral_reads_back

pub decimal_numeral : DecimalNumeral
decimal_numeral = decimal.decimal_numeral

pub laid_bytes : LaidBytes
laid_bytes = laid.laid_bytes
