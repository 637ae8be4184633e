-- `all_rounds` meets its contract. The loop's invariant: r rounds are followed.
use mathlib.Core.List.{[]}
use Rattle.checker.specs.Promise.{logged}
use Rattle.checker.specs.Followed.{tried_value, Followed}
use Rattle.checker.proofs.all_rounds.Given as goal

abbrev pub invariant-loop-r : goal.invariant-loop-r
invariant-loop-r l =
    let L = logged l.line.n l.line.t l.line.upper l.sender l.log [] in
    Followed L (tried_value L) l.r l.course
