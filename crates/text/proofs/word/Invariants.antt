-- `word` meets its contract. The loop's invariant: the bytes so far are put.
use lib.ListN.{take}
use Rattle.text.specs.Laid.{Puts}
use Rattle.text.proofs.word.Given as goal

abbrev pub invariant-loop-b : goal.invariant-loop-b
invariant-loop-b l = Puts l.initial.out l.out l.at (take l.b-index l.bytes) l.place
