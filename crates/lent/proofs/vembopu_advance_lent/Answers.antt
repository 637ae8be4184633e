-- `vembopu_advance_lent` meets its contract: what the call by value gives is stored, and nothing where the row is refused.
use borrow.Author.Rules.{rules}
use Rattle.lent.proofs.StepLaws.{lent_next, lent_refused}
use Rattle.lent.proofs.vembopu_advance_lent.Goals as goal

pub returns-in-Ok : goal.returns-in-Ok
returns-in-Ok c = lent_next _ _ c.advance.ensures c.in-Ok.is

pub returns-in-Err : goal.returns-in-Err
returns-in-Err c = rw c.number.ensures (lent_refused _ _ c.advance.ensures c.in-Err.is)
