-- `numbers` meets its contract. The loop's invariant: the numbers of the first i stations are put.
use Rattle.text.specs.Laid.{Puts}
use Rattle.finding.specs.Finding.{numbers}
use Rattle.finding.proofs.numbers.Given as goal

abbrev pub invariant-loop-i : goal.invariant-loop-i
invariant-loop-i l = Puts l.initial.out l.out l.at (numbers l.marks l.i) l.place
