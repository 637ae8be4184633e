-- `add_row` meets its contract.
use Rattle.std.proofs.Common.{rules}
use Rattle.line.proofs.FromFnLaws.{each_from_fn}
use Rattle.column.specs.Column.{more, each_of}
use Rattle.column.proofs.add_row.Goals as goal

pub returns : goal.returns
unfolding more each_of
returns c = each_from_fn _ _ _ _ (λ i r f' h call. search rules) _ c.from_fn.ensures.items
