-- `act::take_first` meets its contract: the row has n ballots.
use borrow.Author.Rules.{rules}
use Rattle.line.specs.Ballot.{read_first}
use Rattle.station.proofs.TakeLaws.{first_taken}
use Rattle.station.proofs.act.take_first.Goals as goal

pub returns : goal.returns
returns c =
    first_taken c.args.s c.args.row.now _ c.requires _ _ _
    (c.of-tally.ensures read_first (λ b r e. search rules)) c.votes.ensures c.z-z.ensures c.next.ensures
