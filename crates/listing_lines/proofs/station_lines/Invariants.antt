-- `station_lines` meets its contract. The loop's invariant: the lines of the first i stations are put.
use Rattle.text.specs.Laid.{Puts}
use Rattle.listing_lines.specs.Lines.{station_lines}
use Rattle.listing_lines.specs.Text.{text}
use Rattle.listing_lines.proofs.station_lines.Given as goal

abbrev pub invariant-loop-i : goal.invariant-loop-i
invariant-loop-i l = Puts l.initial.out l.out l.at (text (station_lines l.outcomes 0 l.i)) l.place
