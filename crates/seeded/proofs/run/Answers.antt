-- `run` meets its contract.
use native.Mathlib.Omega.{arith}
use mathlib.Core.Path.{◌≡◌, sym, ◌∙◌}
use Rattle.line.specs.Width.{bits}
use Rattle.seeded.proofs.BitLaws.{bits_end}
use Rattle.seeded.proofs.run.Goals as goal

pub next_bit-state-requires : goal.next_bit-state-requires
next_bit-state-requires c =
    (c.loop-b.invariant, omega (arith, c.loop-b-test.true, c.bits-bits.ensures))

pub shape_of-table : goal.shape_of-table
shape_of-table c = c.loop-b.invariant.table_whole ∙ sym c.requires.table_whole

pub shape_of-log : goal.shape_of-log
shape_of-log c = c.loop-b.invariant.in_turn.log_whole ∙ sym c.requires.in_turn.log_whole

pub shape_of-outcomes : goal.shape_of-outcomes
shape_of-outcomes c = c.loop-b.invariant.in_turn.outcomes_whole ∙ sym c.requires.in_turn.outcomes_whole

pub returns : goal.returns
returns c =
    let e : c.loop-b.b ≡ bits c.args.header.w = omega (arith, c.bits-bits.ensures) in
    bits_end _ _ _ _ _ _ (rw e at c.loop-b.invariant)
