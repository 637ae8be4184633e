-- `act::take_second` meets its contract: the row has n ballots.
use borrow.Author.Rules.{rules}
use Rattle.line.specs.Ballot.{read_second}
use Rattle.station.proofs.TakeLaws.{second_taken}
use Rattle.station.proofs.act.take_second.Goals as goal

pub returns : goal.returns
returns c =
    second_taken c.args.s c.args.row.now _ c.requires _ _ _
    (c.of-tally.ensures read_second (λ b r e. search rules)) c.y-y.ensures c.grade-grade.ensures c.next.ensures
