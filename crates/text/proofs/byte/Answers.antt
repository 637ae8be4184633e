-- `byte` meets its contract: past the end nothing is stored.
use Rattle.text.specs.Laid.{after}
use Rattle.text.proofs.LaidLaws.{puts_one, puts_out}
use Rattle.text.proofs.byte.Goals as goal
use Rattle.text.proofs.byte.Goals.{then-at-out, else-at-out}

pub returns : goal.returns
unfolding after
returns c =
    let a = c.args in
    let size = c.well_formed.0.0 in
    rw c.saturating_add.ensures
    (elim c.if-at-out.branch [
      | then-at-out w ↦ rw w.out-is (puts_one a.out.now a.at a.b size)
      | else-at-out w ↦ rw w.out-is (puts_out a.out.now a.at a.b size w.if-at-out.false)
    ])
