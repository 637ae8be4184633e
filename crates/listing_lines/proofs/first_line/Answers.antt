-- `first_line` meets its contract.
use Rattle.text.proofs.LaidLaws.{puts_then}
use Rattle.listing_lines.proofs.first_line.Goals as goal

pub returns : goal.returns
returns c = puts_then c.word-a.ensures (rw c.rounds-rounds.ensures at c.fields.ensures)
