-- `tried_value` meets its contract.
use mathlib.Core.Path.{ap, ◌∙◌}
use Rattle.line.specs.Ballot.{read_sender, bit_or, sender_value}
use Rattle.broadcast.specs.Station.{at}
use Rattle.checker.specs.Followed.{tried_value}
use Rattle.checker.proofs.FollowLaws.{first_place}
use Rattle.checker.proofs.tried_value.Goals as goal

pub returns : goal.returns
unfolding tried_value sender_value at
returns c =
    c.x.ensures ∙ ap (bit_or 0) (c.read_sender-heard.ensures ∙ ap read_sender (first_place _ c.requires))
