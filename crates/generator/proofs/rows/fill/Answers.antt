-- `rows::fill` meets its contract.
use Rattle.std.proofs.Common.{◌≡◌, ◌∙◌, ◌*◌, ◌/◌, ◌<◌, length, sym, arith}
use native.Mathlib.Nat.{zero-mod}
use Rattle.generator.proofs.RowLaws.{drawn_none, drawn_more, from_next, from_first}
use Rattle.generator.proofs.rows.fill.Goals as goal
use Rattle.generator.proofs.rows.fill.Goals.{then-from-n, else-from-n}

pub loop-k-init : goal.loop-k-init
loop-k-init c = (sym (zero-mod c.args.n), drawn_none _ _ _ _)

pub loop-k-preserved : goal.loop-k-preserved
loop-k-preserved c =
    let a = c.args in
    let l = c.loop-k in
    let inv = l.invariant in
    let width = c.from-width.ensures in
    let more : l.k < length a.table.now / a.n = rw width at c.loop-k-test.true in
    let at : l.k * c.from-width.result ≡ l.k * a.n = rw width in (
      elim c.if-from-n.branch [
        | then-from-n w ↦ w.from-is ∙ from_next a.n l.k l.from c.requires.some inv.0 w.if-from-n.true
        | else-from-n w ↦ w.from-is ∙ from_first a.n l.k l.from c.requires.some inv.0 w.if-from-n.false
      ],
      drawn_more a.n a.marks a.state l.k a.table.now more l.table _ l.state _ _ (rw inv.0 at c.is_marked.ensures) inv.1
          _ _ at (omega (arith, width)) c.row-state.auto.row c.row-state.ensures,
    )
