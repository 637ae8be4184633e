-- `vembopu_accept` meets its contract, by what `offer::accept` promises.
use borrow.Author.Rules.{rules}
use Rattle.offer_calls.proofs.WordLaws.{accepted_as}
use Rattle.offer_calls.proofs.vembopu_accept.Goals as goal

pub returns-in-Ok : goal.returns-in-Ok
returns-in-Ok c =
    accepted_as _ _ _ _ _ _ _ _ c.station-s.ensures _ _ _ c.read.ensures _ c.accept.ensures
    (rw (c.in-Ok.is, ← c.state.ensures) c.answer.ensures)

pub returns-in-Err : goal.returns-in-Err
returns-in-Err c =
    accepted_as _ _ _ _ _ _ _ _ c.station-s.ensures _ _ _ c.read.ensures _ c.accept.ensures
    (rw (c.in-Err.is, ← c.number.ensures, ← c.state-in-Err.ensures) c.answer-in-Err.ensures)
