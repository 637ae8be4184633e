-- `add` meets its contract. The loop's invariant: the first i stations' bytes are there.
use Rattle.std.proofs.Common.{◌≡◌, ◌∙◌, ◌<◌, ◌/◌, length, arith}
use Rattle.line.specs.Line.{outcome_size}
use Rattle.line.proofs.WritingLaws.{over_none}
use Rattle.recipe.proofs.GatherLaws.{station_turn, all_added}
use Rattle.recipe.proofs.gather.add.Goals as goal

pub loop-i-init : goal.loop-i-init
loop-i-init c = over_none _ _ _

pub loop-i-preserved : goal.loop-i-preserved
loop-i-preserved c =
    let more : c.loop-i.i < length c.args.outcomes.now / outcome_size = omega (arith, c.as_chunks.ensures.front_len, c.requires.part_size) in
    station_turn c.args.b c.args.part.now c.args.outcomes.now c.requires c.loop-i.i more c.loop-i.outcomes c.add_station.new.outcome _ c.loop-i.invariant (omega arith) c.add_station.auto.outcome
    (rw c.as_chunks.ensures.front at c.add_station.ensures)

pub returns : goal.returns
returns c =
    let all : c.loop-i.i ≡ length c.args.outcomes.now / outcome_size = omega (arith, c.as_chunks.ensures.front_len, c.requires.part_size) in
    c.loop-i.invariant ∙ rw all (all_added _ _ _ (length c.args.outcomes.now / outcome_size) (omega (arith, c.requires.whole)))
