-- `vembopu_offer` meets its contract, by what `offer::show` promises.
use borrow.Author.Rules.{rules}
use Rattle.offer_calls.proofs.WordLaws.{shown_as}
use Rattle.offer_calls.proofs.vembopu_offer.Goals as goal

pub returns-in-Ok : goal.returns-in-Ok
returns-in-Ok c =
    shown_as _ _ _ _ _ _ _ _ c.station.ensures _ _ c.show.ensures
    (rw (c.in-Ok.is, ← c.of_offer.ensures) c.answer.ensures)

pub returns-in-Err : goal.returns-in-Err
returns-in-Err c =
    shown_as _ _ _ _ _ _ _ _ c.station.ensures _ _ c.show.ensures
    (rw (c.in-Err.is, ← c.number.ensures) c.answer-in-Err.ensures)
