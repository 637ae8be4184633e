-- `fate::told` meets its contract: one test after the other.
use borrow.Author.Tests.{lt-ltb, le-ltb}
use Rattle.reader.specs.Loops.{walked_by}
use Rattle.reader.proofs.fate.told.Goals as goal

pub returns-then-k-i : goal.returns-then-k-i
unfolding walked_by
returns-then-k-i c = rw (lt-ltb c.args.k c.args.i c.if-k-i.true)

pub returns-then-i-gt0 : goal.returns-then-i-gt0
unfolding walked_by
returns-then-i-gt0 c =
    let k = c.args.k in
    let i = c.args.i in
    rw (le-ltb k i c.if-k-i.false, lt-ltb 0 i c.if-i-gt0.true)

pub returns : goal.returns
unfolding walked_by
returns c =
    let k = c.args.k in
    let i = c.args.i in
    rw (le-ltb k i c.if-k-i.false, le-ltb 0 i c.if-i-gt0.false)
