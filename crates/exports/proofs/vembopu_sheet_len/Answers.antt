-- `vembopu_sheet_len` meets its contract: the answer as one number.
use Rattle.std.proofs.Common.{rules}
use Rattle.exports.proofs.vembopu_sheet_len.Goals as goal

pub returns : goal.returns
returns c = record { answer = c.needed-needed.result; needs = c.needed-needed.ensures; word_is = search rules }
