-- Demand 3 of real bonders at a number, from that of each bit's. Assumes nothing.
use Rattle.line.specs.Line.{from_0}
use Rattle.line.specs.Marks.{marked}
use Rattle.line.specs.Width.{bits, bit_of}
use Rattle.header.proofs.HeaderLaws.{number_sound, bit_sound, header_accepts}
use Rattle.broadcast.specs.Theorems.{value_at, flag_at}
use Rattle.broadcast.proofs.Theorems as broadcast
use Rattle.number.specs.Numbers.{numbers, flags}
use Rattle.number.proofs.DigitLaws.{rebuilt}
use Rattle.number.proofs.NumberLaws.{together}
use Rattle.rehearsal.proofs.Theorems.{demand_3_of_bonders}
use Rattle.recipe.specs.Theorems.{Demand3OfNumberBonders, UnflaggedNumberBondersAgree}

pub guaranteed : Demand3OfNumberBonders
unfolding numbers flags
guaranteed n t T sender number w marks v received results e line =
    let h = number_sound n t T sender number w marks e in
    rw (rebuilt (bits w) number h.small) at
    (together n t T (marked marks) (from_0 sender) (bits w) (bit_of number) (λ i b. value_at (results b) i) (λ i b. flag_at (results b) i)
    (λ b l.
    demand_3_of_bonders n t T sender (bit_of number b) marks (v b) (received b) (results b)
    (header_accepts n t T sender (bit_of number b) marks (bit_sound n t T sender number w marks h b)) (line b l)))

pub unflagged_agree : UnflaggedNumberBondersAgree
unflagged_agree n t T sender number w marks v received results e line =
    broadcast.unflagged_agree _ n t T (marked marks) (from_0 sender) number _ _ (guaranteed n t T sender number w marks v received results e line)
