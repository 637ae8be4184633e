-- `read_bit` meets its contract: causes 1 to 8, and 11 of the bit asked for, come first.
use Rattle.std.proofs.Common.{rules}
use mathlib.Core.Path.{sym, ◌∙◌}
use Rattle.reader.proofs.PromiseLaws.{opened_bit, bit_read, refused_bit, bit_fits}
use Rattle.refusal.proofs.VerdictLaws.{some_cause}
use Rattle.reader.proofs.read_bit.Goals as goal

pub overflow_mul-b : goal.overflow_mul-b
overflow_mul-b c = bit_fits c.args.sheet.now _ _ (search rules)

pub read_chain-requires : goal.read_chain-requires
read_chain-requires c = opened_bit c.args.sheet.now _ _ (search rules)

pub returns : goal.returns
returns c = bit_read _ _ _ _ _ (search rules) c.read_chain.ensures

pub returns-in_err-bit_to_8 : goal.returns-in_err-bit_to_8
returns-in_err-bit_to_8 c =
    let (k, e) = some_cause _ c.from_residual.ensures.0 in
    rw e (refused_bit _ _ _ k (search rules))
