-- `vembopu_result` meets its contract, by what `station::result` promises.
use Rattle.controller.proofs.WordLaws.{result_as}
use Rattle.controller.proofs.vembopu_result.Goals as goal

pub returns-in-Ok : goal.returns-in-Ok
returns-in-Ok c =
    result_as _ _ _ _ _ _ _ _ c.station.ensures _ c.result.ensures
    (rw (c.in-Ok.is, ← c.result-in-Ok.ensures) c.answer.ensures)

pub returns-in-Err : goal.returns-in-Err
returns-in-Err c =
    result_as _ _ _ _ _ _ _ _ c.station.ensures _ c.result.ensures
    (rw (c.in-Err.is, ← c.number.ensures) c.answer-in-Err.ensures)
