-- `field` meets its contract.
use Rattle.text.proofs.LaidLaws.{puts_then}
use Rattle.text.proofs.field.Goals as goal

pub returns : goal.returns
returns c = puts_then c.byte-a.ensures c.number.ensures
