-- `count` meets its contract. The loop's invariant: the rows so far are counted.
use Rattle.line.specs.Writing.{Each}
use Rattle.column.specs.Column.{each_of, counted}
use Rattle.column.proofs.count.Given as goal

abbrev pub invariant-loop-i : goal.invariant-loop-i
invariant-loop-i l = Each 32 l.counts (counted l.bytes l.start l.n (each_of l.wanted) l.i)
