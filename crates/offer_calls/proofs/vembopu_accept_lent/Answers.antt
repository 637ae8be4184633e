-- `vembopu_accept_lent` meets its contract: what the acceptance by value gives is stored, and nothing where it is refused.
use borrow.Author.Rules.{rules}
use Rattle.offer_calls.proofs.StepLaws.{accepted_next, accepted_refused}
use Rattle.offer_calls.proofs.vembopu_accept_lent.Goals as goal

pub returns-in-Ok : goal.returns-in-Ok
returns-in-Ok c = accepted_next _ _ _ c.read.ensures c.accept.ensures c.in-Ok.is

pub returns-in-Err : goal.returns-in-Err
returns-in-Err c = rw c.number.ensures (accepted_refused _ _ _ c.read.ensures c.accept.ensures c.in-Err.is)
