-- `vembopu_write` meets its contract: the answer as one number.
use Rattle.std.proofs.Common.{rules}
use Rattle.exports.proofs.vembopu_write.Goals as goal

pub returns : goal.returns
returns c = record { answer = c.write-written.result; writes = c.write-written.ensures; word_is = search rules }
