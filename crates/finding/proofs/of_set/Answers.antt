-- `of_set` meets its contract: the word, the numbers and the line's end.
use Rattle.text.proofs.LaidLaws.{puts_then}
use Rattle.finding.specs.Finding.{broke_line}
use Rattle.finding.proofs.of_set.Goals as goal

pub returns : goal.returns
unfolding broke_line
returns c =
    puts_then c.word-a.ensures
    (puts_then c.numbers-b.ensures c.byte.ensures)
