-- `take_all` meets its contract: the counts, then part by part.
use borrow.Author.Tests.{ltb-true}
use Rattle.line.specs.Writing.{Each}
use Rattle.line.proofs.LineLaws.{round_means}
use Rattle.broadcast.specs.Station.{next, moved}
use Rattle.column.specs.Column.{each_of}
use Rattle.column.proofs.ColumnLaws.{sent_there}
use Rattle.round.proofs.RoundLaws.{taken_as, all_of, wanted_is, z_made, y_made, grade_made}
use Rattle.round.proofs.take_all.Goals as goal

pub returns-in-Sender : goal.returns-in-Sender
unfolding Each moved next
returns-in-Sender c =
    let room = c.requires.0 in
    let most = (round_means _ _ _ room).0 in
    let speaks = ltb-true _ _ (rw c.in-Sender.is at c.requires.1) in
    taken_as _ _ _ _ _ _ _ _ _ _ _ _ _ most c.note-next.ensures c.found-found.ensures c.in-Sender.is
    (λ r j k. rw (all_of _ _ _ most c.hear-next.ensures j k, c.sent_by-heard.ensures j k, sent_there _ _ _ _ speaks room j))

pub returns-in-First : goal.returns-in-First
unfolding Each moved next each_of
returns-in-First c =
    let room = c.requires.0 in
    let most = (round_means _ _ _ room).0 in
    taken_as _ _ _ _ _ _ _ _ _ _ _ _ _ most c.note-next.ensures c.found-found.ensures c.in-First.is
    (λ r j k. rw (all_of _ _ _ most c.choose-next.ensures j k, z_made _ _ _ room j _ _ (each_of c.args.s.value) (c.count-equal.ensures j k)))

pub returns-in-Second : goal.returns-in-Second
unfolding Each moved next
returns-in-Second c =
    let room = c.requires.0 in
    let most = (round_means _ _ _ room).0 in
    taken_as _ _ _ _ _ _ _ _ _ _ _ _ _ most c.note-next.ensures c.found-found.ensures c.in-Second.is
    (λ r j k.
    let zeros = wanted_is _ 0 j most k in
    let ones = wanted_is _ 1 j most k in
    rw (all_of _ _ _ most c.decide-next.ensures j k, all_of _ _ _ most c.grade-next.ensures j k, y_made _ _ _ room j _ _ _ _ zeros ones (c.count-zeros.ensures j k) (c.count-ones.ensures j k), grade_made _ _ _ room j _ _ _ _ zeros ones (c.count-zeros.ensures j k) (c.count-ones.ensures j k) _ _))

pub returns-in-King : goal.returns-in-King
unfolding Each moved next
returns-in-King c =
    let room = c.requires.0 in
    let most = (round_means _ _ _ room).0 in
    let speaks = ltb-true _ _ (rw c.in-King.is at c.requires.1) in
    taken_as _ _ _ _ _ _ _ _ _ _ _ _ _ most c.note-next.ensures c.found-found.ensures c.in-King.is
    (λ r j k. rw (all_of _ _ _ most c.obey-next.ensures j k, c.sent_by-heard-in-King.ensures j k, sent_there _ _ _ _ speaks room j))
