-- `all_rounds` meets its contract. The loop's invariant: r rounds are played.
use Rattle.rehearsal.specs.Promise.{run_with}
use Rattle.rehearsal.specs.Rounds.{Played}
use Rattle.rehearsal.proofs.all_rounds.Given as goal

abbrev pub invariant-loop-r : goal.invariant-loop-r
invariant-loop-r l = Played (run_with l.header l.table) l.r l.stations l.log
