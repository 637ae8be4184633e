-- `of_run` meets its contract.
use Rattle.text.proofs.LaidLaws.{puts_then}
use Rattle.listing_lines.proofs.of_run.Goals as goal

pub returns : goal.returns
returns c = puts_then c.first_line-a.ensures c.station_lines.ensures
