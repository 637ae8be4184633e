-- `first_index` meets its contract.
use Rattle.std.proofs.Common.{arith}
use Rattle.std.proofs.lemmas.Bool.Decides.{nat_tests}
use Rattle.record.specs.Bytes.{first_index}
use Rattle.record.proofs.first_index.Goals as goal

pub returns : goal.returns
unfolding first_index
returns c = grind (arith, nat_tests)
