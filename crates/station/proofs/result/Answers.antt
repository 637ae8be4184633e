use Rattle.std.proofs.Common.{rules}
use Rattle.station.proofs.AnswerLaws.{results}
use Rattle.station.proofs.result.Goals as goal

pub returns : goal.returns
returns c = results _ _ (search rules)
