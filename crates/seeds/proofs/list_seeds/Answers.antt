-- `list_seeds` meets its contract. The loop's invariant: the listings of the seeds below this one are put.
use native.Mathlib.Omega.{arith}
use Prim.Native.Nat.{suc, ◌+◌, ◌-◌}
use mathlib.Core.Path.{◌≡◌, sym, ◌∙◌}
use lib.Pow.{pow_pos}
use Rattle.text.proofs.LaidLaws.{puts_none, puts_length}
use Rattle.seeded.specs.Listings.{last_seed, listings}
use Rattle.seeded.proofs.ListingLaws.{listings_turn}
use Rattle.seeds.proofs.list_seeds.Goals as goal

pub loop-seed-init : goal.loop-seed-init
unfolding listings
loop-seed-init c =
    (c.requires, puts_none _ _ (omega arith) (pow_pos 64))

pub list_seed-at-requires : goal.list_seed-at-requires
list_seed-at-requires c =
    (c.loop-seed.invariant.0, record { some = omega arith })

pub loop-seed-preserved : goal.loop-seed-preserved
loop-seed-preserved c =
    let e = c.list_seed-at.ensures in
    let inv = c.loop-seed.invariant in
    let here : suc (c.loop-seed.seed - 1) ≡ c.loop-seed.seed = omega arith in
    let next : c.loop-seed.seed + 1 - 1 ≡ c.loop-seed.seed = omega arith in
    (e.0, rw next (rw here at (listings_turn _ (c.loop-seed.seed - 1) inv.1 (rw (← here) at e.1))))

pub shape_of-table : goal.shape_of-table
shape_of-table c = c.loop-seed.invariant.0.table_whole ∙ sym c.requires.table_whole

pub shape_of-log : goal.shape_of-log
shape_of-log c = c.loop-seed.invariant.0.log_whole ∙ sym c.requires.log_whole

pub shape_of-outcomes : goal.shape_of-outcomes
shape_of-outcomes c = c.loop-seed.invariant.0.outcomes_whole ∙ sym c.requires.outcomes_whole

pub shape_of-out : goal.shape_of-out
shape_of-out c = puts_length c.loop-seed.invariant.1

pub returns : goal.returns
returns c =
    let e : c.loop-seed.seed - 1 ≡ last_seed = omega arith in
    rw e at c.loop-seed.invariant.1
