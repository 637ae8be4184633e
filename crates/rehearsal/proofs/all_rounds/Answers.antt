-- `all_rounds` meets its contract. The loop's invariant: r rounds are played.
use mathlib.Core.Path.{◌≡◌}
use native.Mathlib.Omega.{arith}
use native.Mathlib.Numerals.{add-one}
use Rattle.line.specs.Line.{rounds}
use Rattle.rehearsal.proofs.RunLaws.{opened_played, round_played}
use Rattle.rehearsal.proofs.all_rounds.Goals as goal

pub loop-r-init : goal.loop-r-init
loop-r-init c = rw c.opened-stations.ensures (opened_played _ _ c.requires)

pub loop-r-preserved : goal.loop-r-preserved
loop-r-preserved c =
    let plays = rw (c.part_of-part.ensures, add-one c.loop-r.r) at c.play-stations.ensures in
    rw (add-one c.loop-r.r) (round_played _ _ c.requires c.loop-r.r (omega arith) c.loop-r.stations c.loop-r.log c.loop-r.invariant _ _ plays)

pub returns : goal.returns
returns c =
    let e : c.loop-r.r ≡ rounds c.args.header.line.t = omega arith in
    rw e at c.loop-r.invariant
