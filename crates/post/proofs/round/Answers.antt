-- `round` meets its contract.
use mathlib.Core.Path.{sym, ◌∙◌}
use lib.ListN.{length}
use Rattle.line.proofs.LineLaws.{round_means}
use Rattle.post.proofs.PostLaws.{posted_is, posted_not, posted_not_table}
use Rattle.post.proofs.round.Goals as goal
use Rattle.post.proofs.round.Goals.{else-has_round-via-then-has_round+else-has_round-2, else-has_round-via-else-has_round}

pub post_all-requires : goal.post_all-requires
post_all-requires c =
    let g = c.args in
    let a = round_means g.line.n g.start (length g.log.now) (sym c.has_round.ensures ∙ c.if-has_round.true) in
    let b = round_means g.line.n g.start (length g.table.now) (sym c.has_round-then-has_round.ensures ∙ c.if-has_round-2.true) in
    rw c.from.ensures (a.0, a.1, b.1)

pub returns-then-has_round-2 : goal.returns-then-has_round-2
returns-then-has_round-2 c =
    let g = c.args in
    (rw c.from.ensures at c.post_all.ensures)
    ∙ sym (posted_is g.said.now g.table.now g.marks g.start g.line.n g.log.now
    (sym c.has_round.ensures ∙ c.if-has_round.true)
    (sym c.has_round-then-has_round.ensures ∙ c.if-has_round-2.true))

pub returns-else-has_round : goal.returns-else-has_round
returns-else-has_round c =
    let g = c.args in
    elim c.else-has_round.branch [
      | else-has_round-via-then-has_round+else-has_round-2 w ↦
          sym (posted_not_table g.said.now g.table.now g.marks g.start g.line.n g.log.now (sym w.has_round-then-has_round.ensures ∙ w.if-has_round-2.false))
      | else-has_round-via-else-has_round w ↦
          sym (posted_not g.said.now g.table.now g.marks g.start g.line.n g.log.now (sym c.has_round.ensures ∙ w.if-has_round.false))
    ]
