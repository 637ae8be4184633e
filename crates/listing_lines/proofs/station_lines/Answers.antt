-- `station_lines` meets its contract.
use mathlib.Core.Path.{◌≡◌}
use native.Mathlib.Omega.{arith}
use Rattle.text.proofs.LaidLaws.{puts_none, puts_length}
use Rattle.listing_lines.specs.Lines.{station_lines}
use Rattle.listing_lines.proofs.LineLaws.{lines_turn}
use Rattle.listing_lines.proofs.station_lines.Goals as goal

pub loop-i-init : goal.loop-i-init
unfolding station_lines
loop-i-init c = puts_none _ _ c.well_formed.0.0 c.ranges.at.fits

pub loop-i-preserved : goal.loop-i-preserved
loop-i-preserved c = lines_turn _ _ c.loop-i.invariant c.station_line-place.ensures

pub shape_of-out : goal.shape_of-out
shape_of-out c = puts_length c.loop-i.invariant

pub returns : goal.returns
returns c =
    let all : c.loop-i.i ≡ c.args.n = omega arith in
    rw all at c.loop-i.invariant
