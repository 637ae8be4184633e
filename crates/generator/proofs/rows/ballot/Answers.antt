-- `ballot` meets its contract.
use borrow.Author.Tests.{eq-eqb, ne_eqb}
use Rattle.generator.specs.Tables.{ballot}
use Rattle.generator.proofs.rows.ballot.Goals as goal

pub returns-then-b-eq3 : goal.returns-then-b-eq3
unfolding ballot
returns-then-b-eq3 c = rw (eq-eqb _ _ c.if-b-eq3.true)

pub returns-else-b-eq3 : goal.returns-else-b-eq3
unfolding ballot
returns-else-b-eq3 c = rw (ne_eqb _ _ c.if-b-eq3.false)
