-- `records_needed` meets its contract, by how many records there are.
use mathlib.Core.Path.{◌∙◌}
use Rattle.writer.proofs.PromiseLaws.{taken_counted, needs_fewer, needs_bytes}
use Rattle.writer.proofs.records_needed.Goals as goal

pub returns-then-k-gt-RECORDS : goal.returns-then-k-gt-RECORDS
returns-then-k-gt-RECORDS c =
    let a = c.args in
    let k = rw c.header_of.ensures at c.count-k.ensures ∙ taken_counted a.header.now a.table.now c.requires in
    needs_fewer a.header.now a.table.now _ k c.requires c.if-k-gt-RECORDS.true

pub returns : goal.returns
returns c =
    let a = c.args in
    let k = rw c.header_of.ensures at c.count-k.ensures ∙ taken_counted a.header.now a.table.now c.requires in
    needs_bytes a.header.now a.table.now _ k c.requires c.if-k-gt-RECORDS.false
