-- `put::next_index` meets its contract.
use borrow.Author.Tests.{eq-eqb, ne_eqb}
use Rattle.writer.proofs.put.next_index.Goals as goal

pub returns-then-at-last : goal.returns-then-at-last
returns-then-at-last c = rw (eq-eqb _ _ c.if-at-last.true)

pub returns-else-at-last : goal.returns-else-at-last
returns-else-at-last c = rw (ne_eqb _ _ c.if-at-last.false)
