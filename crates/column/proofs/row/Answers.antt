-- `row` meets its contract.
use Rattle.column.proofs.ColumnLaws.{row_whole, row_short}
use Rattle.column.proofs.row.Goals as goal

pub returns-in-Some : goal.returns-in-Some
returns-in-Some c = row_whole _ _ c.in-Some.ensures.cases.same

pub returns-in-None : goal.returns-in-None
returns-in-None c = row_short _ _ c.copy_from_slice.ensures.after
