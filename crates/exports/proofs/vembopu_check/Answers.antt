-- `vembopu_check` meets its contract: the answer as one number.
use Rattle.std.proofs.Common.{rules}
use Rattle.exports.proofs.vembopu_check.Goals as goal

pub returns : goal.returns
returns c = record { answer = c.check-broke.result; checks = c.check-broke.ensures; word_is = search rules }
