-- `vembopu_advance` meets its contract, by what `station::advance` promises.
use Rattle.controller.proofs.WordLaws.{advanced_as}
use Rattle.controller.proofs.vembopu_advance.Goals as goal

pub returns-in-Ok : goal.returns-in-Ok
returns-in-Ok c =
    advanced_as _ _ _ _ _ _ _ _ c.station-before.ensures _ _ c.advance.ensures
    (rw (c.in-Ok.is, ← c.state.ensures) c.answer.ensures)

pub returns-in-Err : goal.returns-in-Err
returns-in-Err c =
    advanced_as _ _ _ _ _ _ _ _ c.station-before.ensures _ _ c.advance.ensures
    (rw (c.in-Err.is, ← c.number.ensures, ← c.state-in-Err.ensures) c.answer-in-Err.ensures)
