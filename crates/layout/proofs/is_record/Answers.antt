-- `is_record` meets its contract.
use borrow.Author.Tests.{le-leb, lt-leb}
use Rattle.layout.specs.Chain.{is_record}
use Rattle.layout.proofs.is_record.Goals as goal

pub returns-then-i-ge1 : goal.returns-then-i-ge1
unfolding is_record
returns-then-i-ge1 c = rw (le-leb 1 c.args.i c.if-i-ge1.true, c.records.ensures)

pub returns-else-i-ge1 : goal.returns-else-i-ge1
unfolding is_record
returns-else-i-ge1 c = rw (lt-leb 1 c.args.i c.if-i-ge1.false)
