-- `of_refusal` meets its contract.
use Rattle.text.proofs.LaidLaws.{puts_then, puts_line}
use Rattle.listing_lines.proofs.of_refusal.Goals as goal

pub returns : goal.returns
returns c = puts_line (puts_then c.word-a.ensures c.fields.ensures)
