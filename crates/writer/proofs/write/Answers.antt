-- `write` meets its contract: what is needed is asked first.
use Rattle.std.proofs.Common.{rules}
use Rattle.writer.proofs.PromiseLaws.{writes_refused}
use mathlib.Core.Path.{◌≡◌}
use Rattle.std.specs.declared.result.Result.TheVariants.{Err}
use Rattle.refusal.proofs.VerdictLaws.{some_cause}
use Rattle.writer.proofs.write.Goals as goal

pub write_needed-requires : goal.write_needed-requires
write_needed-requires c = rw c.in_ok-len.was at c.needed.ensures

pub returns-in_err-len : goal.returns-in_err-len
returns-in_err-len c =
    let a = c.args in
    let (k, e) = some_cause _ c.from_residual.ensures.0 in
    let same : c.needed.result ≡ Err k = search rules in
    rw e (writes_refused a.header.now a.table.now a.sheet.now k (rw same at c.needed.ensures))
