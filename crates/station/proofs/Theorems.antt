-- The theorems: the statements of specs/Theorems.antt, under their names, and the law that proves each. Assumes nothing.
use Rattle.station.specs.Theorems.{CallsInARow, SinglyByAutomaton}
use Rattle.station.proofs.CallLaws.{in_a_row}
use Rattle.station.proofs.SinglyLaws.{automatic, singly}

pub calls_in_a_row : CallsInARow
calls_in_a_row = in_a_row

pub singly_by_automaton : SinglyByAutomaton
singly_by_automaton n t T sender log outcomes i v accepted =
    (automatic n t T sender log outcomes i v accepted, singly n t T sender log outcomes i v accepted)
