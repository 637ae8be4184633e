-- `write_needed` meets its contract: the buffer's length is judged, then the sheet put.
use native.Mathlib.Omega.{arith}
use Rattle.writer.proofs.PromiseLaws.{told_long, writes_length, unrefused, writes_sheet}
use Rattle.writer.proofs.write_needed.Goals as goal

pub returns-then-sheet-len : goal.returns-then-sheet-len
returns-then-sheet-len c =
    let a = c.args in
    writes_length a.header.now a.table.now a.len c.requires a.sheet.now c.if-sheet-len.true

pub overflow_sub-k : goal.overflow_sub-k
overflow_sub-k c =
    let a = c.args in
    omega (arith, told_long a.header.now a.table.now a.len c.requires)

pub sheet-requires : goal.sheet-requires
sheet-requires c =
    let a = c.args in
    unrefused a.header.now a.table.now a.len c.requires a.sheet.now c.if-sheet-len.false

pub returns : goal.returns
returns c =
    let a = c.args in
    writes_sheet a.header.now a.table.now a.len c.requires a.sheet.now _ c.if-sheet-len.false c.sheet.ensures
