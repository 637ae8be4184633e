-- Demand 3 of real bonders: what they received, taken for a run table, makes a run of which this is the log; their results are that run's. Assumes nothing.
use mathlib.Core.Path.{refl}
use Rattle.line.specs.Line.{from_0}
use Rattle.line.specs.Marks.{marked}
use Rattle.header.proofs.HeaderLaws.{header_sound}
use Rattle.broadcast.proofs.BytesLaws.{same_two_threshold}
use Rattle.broadcast.proofs.Theorems as theorems
use Rattle.rehearsal.specs.Promise.{run_of}
use Rattle.rehearsal.specs.Theorems.{RehearsedBonders, Demand3OfBonders, UnflaggedBondersAgree}
use Rattle.rehearsal.proofs.CallLaws.{single_stations, good_outcome}

pub rehearsed : RehearsedBonders
rehearsed R accepted v values =
    let header = header_sound R.n R.t R.T R.sender R.value R.marks accepted in
    let made = (single_stations R header v values).singly in
    record { received_size = made.log_size; values = record { bit = values.bit; at_sender = values.at_sender }; good = made.good }

pub guaranteed : Demand3OfBonders
guaranteed n t T sender value marks v received outcomes accepted B =
    let R = run_of n t T sender value marks received in
    let header = header_sound n t T sender value marks accepted in
    let same = good_outcome R header v B.values received outcomes B.good B.received_size (λ r i j a b c d e. refl) in
    same_two_threshold 2 n t T (marked marks) (from_0 sender) value _ _ _ _ (λ i g. (same i g).0) (λ i g. (same i g).2)
    (theorems.demand_3 R header.fits header.value_bit)

pub unflagged_agree : UnflaggedBondersAgree
unflagged_agree n t T sender value marks v received outcomes accepted B =
    theorems.unflagged_agree 2 n t T (marked marks) (from_0 sender) value _ _
    (guaranteed n t T sender value marks v received outcomes accepted B)
