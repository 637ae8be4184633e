-- `needed` meets its contract: causes 1 to 8 come first.
use Rattle.std.proofs.Common.{rules}
use mathlib.Core.Path.{sym, ◌∙◌}
use Rattle.writer.proofs.PromiseLaws.{needs_refused}
use Rattle.refusal.proofs.VerdictLaws.{some_cause}
use Rattle.writer.proofs.needed.Goals as goal

pub records_needed-requires : goal.records_needed-requires
records_needed-requires c = search rules

pub returns-in_err-header_and_table : goal.returns-in_err-header_and_table
returns-in_err-header_and_table c =
    let (k, e) = some_cause _ c.from_residual.ensures.0 in
    rw e (needs_refused _ _ k (search rules))
