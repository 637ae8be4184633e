-- `vembopu_open` meets its contract, by what `station::open` promises.
use Rattle.controller.proofs.WordLaws.{opened_as}
use Rattle.controller.proofs.vembopu_open.Goals as goal

pub returns-in-Ok : goal.returns-in-Ok
returns-in-Ok c =
    opened_as _ _ _ _ _ _ _ _ c.open.ensures
    (rw (c.in-Ok.is, ← c.state.ensures) c.answer.ensures)

pub returns-in-Err : goal.returns-in-Err
returns-in-Err c =
    opened_as _ _ _ _ _ _ _ _ c.open.ensures
    (rw (c.in-Err.is, ← c.number.ensures) c.answer-in-Err.ensures)
