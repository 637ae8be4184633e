-- `marks_within` meets its contract.
use Rattle.header.specs.Header.{marks_within}
use Rattle.refusal.proofs.VerdictLaws.{judged}
use Rattle.header.proofs.marks_within.Goals as goal

pub returns : goal.returns
unfolding marks_within
returns c = judged (cc)
