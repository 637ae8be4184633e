-- `run` meets its contract. The loop's invariant: b bits are rehearsed.
use Rattle.recipe.specs.Promise.{number_run_with}
use Rattle.recipe.specs.Loops.{Played}
use Rattle.recipe.proofs.run.Given as goal

abbrev pub invariant-loop-b : goal.invariant-loop-b
invariant-loop-b l = Played (number_run_with l.header l.tables) l.b l.logs l.outcomes
