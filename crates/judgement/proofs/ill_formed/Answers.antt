-- `ill_formed` meets its contract.
use Rattle.std.proofs.lemmas.Bool.Decides.{nat_tests}
use native.Mathlib.Omega.{arith}
use Rattle.judgement.specs.Judgement.{ill_formed}
use Rattle.judgement.proofs.ill_formed.Goals as goal

pub returns-then-k-gt-RECORDS : goal.returns-then-k-gt-RECORDS
unfolding ill_formed
returns-then-k-gt-RECORDS c = grind (arith, nat_tests)

pub returns-else-k-gt-RECORDS : goal.returns-else-k-gt-RECORDS
unfolding ill_formed
returns-else-k-gt-RECORDS c = grind (arith, nat_tests)
