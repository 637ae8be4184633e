-- `block` meets its contract: all 32, or none.
use native.Mathlib.Omega.{arith}
use Rattle.std.proofs.lemmas.List.{take_rest}
use Rattle.column.proofs.ColumnLaws.{block_whole, block_short}
use Rattle.column.proofs.block.Goals as goal

pub returns-in-Some : goal.returns-in-Some
returns-in-Some c =
    let part = c.in-Some.ensures.lookup in
    block_whole c.args.bytes.now _ c.args.at (omega (arith, part.0.3)) (rw (part.0.2, take_rest c.args.bytes.now c.args.at) at c.row.ensures)

pub returns-in_default : goal.returns-in_default
returns-in_default c = block_short c.args.bytes.now c.args.at (omega (arith, c.in-Some.ensures.lookup.0.3))

pub returns-in_default-2 : goal.returns-in_default-2
returns-in_default-2 c = block_short c.args.bytes.now c.args.at (omega (arith, (rw c.in_default.is at c.get.ensures.lookup).0))
