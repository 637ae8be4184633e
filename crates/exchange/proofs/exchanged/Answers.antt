-- `exchanged` meets its contract: the two rounds, one after the other.
use mathlib.Core.Path.{refl}
use Rattle.line.proofs.WritingLaws.{zeros}
use Rattle.exchange.proofs.ExchangeLaws.{graded}
use Rattle.exchange.proofs.exchanged.Goals as goal

pub returns : goal.returns
returns c =
    let opened = c.opened-entered.ensures in
    graded _ _ _ _ _ _ c.requires.0 c.requires.2 _ _ _ _ _ _ refl
    (rw opened (rw c.requires.1 at c.first_bytes.ensures)) c.requires.3 (λ j h. rw opened (zeros 32 j)) c.play-chosen.ensures c.play.ensures
