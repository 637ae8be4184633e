-- `read` meets its contract: causes 1 to 8 come first.
use Rattle.std.proofs.Common.{rules}
use mathlib.Core.Path.{sym, ◌∙◌}
use Rattle.reader.proofs.PromiseLaws.{opened_all, all_read, refused_opening}
use Rattle.refusal.proofs.VerdictLaws.{some_cause}
use Rattle.reader.proofs.read.Goals as goal

pub read_chain-requires : goal.read_chain-requires
read_chain-requires c = opened_all c.args.sheet.now _ (search rules)

pub returns : goal.returns
returns c = all_read _ _ _ _ (search rules) c.read_chain.ensures

pub returns-in_err-to_8 : goal.returns-in_err-to_8
returns-in_err-to_8 c =
    let (k, e) = some_cause _ c.from_residual.ensures.0 in
    rw e (refused_opening _ _ k (search rules))
