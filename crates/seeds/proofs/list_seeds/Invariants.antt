-- `list_seeds` meets its contract. The loop's invariant: the listings of the seeds below this one are put.
use Prim.Native.Nat.{◌-◌}
use Rattle.text.specs.Laid.{Puts}
use Rattle.seeded.specs.Listings.{listings}
use Rattle.seeds.specs.Loops.{Ready}
use Rattle.seeds.proofs.list_seeds.Given as goal

abbrev pub invariant-loop-seed : goal.invariant-loop-seed
invariant-loop-seed l = Ready l.header l.table l.log l.outcomes × Puts l.initial.out l.out 0 (listings l.header (l.seed - 1)) l.at
