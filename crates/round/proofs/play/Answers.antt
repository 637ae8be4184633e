-- `play` meets its contract: a round that can be played is told, posted and taken.
use mathlib.Core.Path.{sym, ◌∙◌}
use Rattle.line.proofs.LineLaws.{round_means}
use Rattle.round.specs.Round.{said_by}
use Rattle.round.proofs.RoundLaws.{all_of, played, went}
use Rattle.round.proofs.play.Goals as goal

pub returns-then-has_round-2 : goal.returns-then-has_round-2
unfolding said_by
returns-then-has_round-2 c =
    let room = sym c.has_round.ensures ∙ c.if-has_round.true in
    went _ _ _ _ _ _ _ _ _ _
    (played _ _ _ _ _ _ (sym c.speaker_within.ensures ∙ c.if-speaker_within.true) room
    (sym c.has_round-then-has_round.ensures ∙ c.if-has_round-2.true))
    _ (all_of _ _ _ (round_means _ _ _ room).0 c.tell-said.ensures)
    _ _ c.round.ensures c.take_all.ensures
