-- `add_station` meets its contract, by whether the station is bad.
use Rattle.std.proofs.Common.{arith}
use Rattle.std.proofs.lemmas.Bool.Decides.{nat_tests}
use Rattle.number.specs.Digits.{either}
use Rattle.recipe.proofs.GatherLaws.{station_left, station_joined}
use Rattle.recipe.proofs.gather.add_station.Goals as goal

pub returns-then-outcome : goal.returns-then-outcome
returns-then-outcome c = station_left _ _ _ c.if-outcome.true

pub returns : goal.returns
unfolding either
returns c =
    rw c.copy_from_slice.ensures.after
    (station_joined _ _ _ c.if-outcome.false _ _ _ _ c.with_bit.ensures c.min.ensures (grind (arith, nat_tests)) c.max.ensures)
