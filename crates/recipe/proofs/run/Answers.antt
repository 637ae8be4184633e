-- `run` meets its contract. The loop's invariant: b bits are rehearsed.
use Rattle.std.proofs.Common.{◌≡◌, ◌*◌, ◌<◌, arith}
use Rattle.line.specs.Line.{table_length}
use Rattle.line.specs.Width.{bits}
use Rattle.recipe.proofs.RunLaws.{turn_played, all_played}
use Rattle.recipe.proofs.run.Goals as goal

pub loop-b-preserved : goal.loop-b-preserved
loop-b-preserved c =
    let size = c.table_len-size.ensures in
    let more : c.loop-b.b < bits c.args.header.w = omega (arith, c.bits-b-end.ensures) in
    let from : c.from.result * c.table_len-size.result ≡ c.loop-b.b * table_length c.args.header.line.n c.args.header.line.t = rw (c.from.ensures, size) in
    turn_played _ _ _ c.requires c.loop-b.b more _ _ c.loop-b.invariant _ _ _ _ _ from (omega (arith, size)) c.bit.ensures

pub returns : goal.returns
returns c =
    let all : c.loop-b.b ≡ bits c.args.header.w = omega (arith, c.bits-b-end.ensures) in
    all_played _ _ _ c.requires _ _ (rw all at c.loop-b.invariant)
