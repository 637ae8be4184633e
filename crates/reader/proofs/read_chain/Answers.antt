-- `read_chain` meets its contract: the chain is walked and its records judged, and only then the table is filled.
use Rattle.std.proofs.Common.{rules}
use Rattle.refusal.proofs.VerdictLaws.{some_cause}
use Rattle.reader.proofs.PromiseLaws.{refused_later, whole_read}
use Rattle.reader.proofs.read_chain.Goals as goal

pub returns : goal.returns
returns c =
    let whole = rw c.in_ok-m.was at c.walk.ensures in
    whole_read _ _ _ _ _ _ _ c.requires.within whole c.header_of-header.ensures c.fill.ensures

pub returns-in_err-m : goal.returns-in_err-m
returns-in_err-m c =
    let (k, e) = some_cause _ c.from_residual.ensures.0 in
    let (f, v) = rw c.in_err-m.was at c.walk.ensures in
    rw e (refused_later _ _ _ f k (search rules))
