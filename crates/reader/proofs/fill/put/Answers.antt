-- `fill::put` meets its contract: the place is before the table, in it or after it.
use mathlib.Core.Path.{sym}
use lib.Seq.{set_out}
use borrow.Author.Tests.{le-leb, lt-leb}
use Rattle.reader.specs.Loops.{put_at}
use Rattle.reader.proofs.fill.put.Goals as goal
use Rattle.reader.proofs.fill.put.Goals.{else-start-place-via-then-start-place+else-place-start, else-start-place-via-else-start-place}

pub returns-then-place-start : goal.returns-then-place-start
unfolding put_at
returns-then-place-start c = rw (← c.place-place.ensures, le-leb c.args.start _ c.if-start-place.true, c.ballot.ensures)

pub returns-else-start-place : goal.returns-else-start-place
unfolding put_at
returns-else-start-place c =
    let a = c.args in
    elim c.else-start-place.branch [
      | else-start-place-via-then-start-place+else-place-start w ↦
          rw (← c.place-place.ensures, le-leb a.start _ w.if-start-place.true) (sym (set_out _ _ _ w.if-place-start.false))
      | else-start-place-via-else-start-place w ↦ rw (← c.place-place.ensures, lt-leb a.start _ w.if-start-place.false)
    ]
