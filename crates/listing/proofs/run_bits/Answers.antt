-- `run_bits` meets its contract.
use Rattle.line.specs.Width.{bits}
use Rattle.line.proofs.WidthLaws.{bits_some}
use Rattle.listing.proofs.BitLaws.{bit_run_more, table_whole}
use native.Mathlib.Omega.{arith}
use mathlib.Core.Path.{◌≡◌, sym, ◌∙◌}
use Rattle.listing.proofs.run_bits.Goals as goal

pub loop-b-init : goal.loop-b-init
loop-b-init c =
    let some = bits_some c.args.header.w in
    bit_run_more _ _ _ _ _ _ c.requires some _ _ _ c.requires.table_is c.rehearse_bit.ensures

pub next_bit-requires : goal.next_bit-requires
next_bit-requires c =
    (c.loop-b.invariant, omega (arith, c.loop-b-test.true, c.bits-bits.ensures))

pub loop-b-preserved : goal.loop-b-preserved
loop-b-preserved c = c.next_bit.ensures

pub shape_of-table : goal.shape_of-table
shape_of-table c =
    let e = c.bits-bits.ensures in
    table_whole _ _ _ _ _ _ c.loop-b.invariant (omega (arith, e, bits_some c.args.header.w)) ∙ sym (table_whole _ _ _ _ _ _ c.requires (omega arith))

pub shape_of-log : goal.shape_of-log
shape_of-log c = c.loop-b.invariant.in_turn.log_whole ∙ sym c.requires.in_turn.log_whole

pub shape_of-outcomes : goal.shape_of-outcomes
shape_of-outcomes c = c.loop-b.invariant.in_turn.outcomes_whole ∙ sym c.requires.in_turn.outcomes_whole

pub returns : goal.returns
returns c =
    let e : c.loop-b.b ≡ bits c.args.header.w = omega (arith, bits_some c.args.header.w, c.bits-bits.ensures) in
    rw e at c.loop-b.invariant
