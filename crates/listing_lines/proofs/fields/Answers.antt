-- `fields` meets its contract.
use Rattle.listing_lines.proofs.LineLaws.{fields_more}
use Rattle.listing_lines.proofs.fields.Goals as goal

pub loop-x-preserved : goal.loop-x-preserved
loop-x-preserved c last after rest =
    c.loop-x.invariant last after
    (fields_more c.args.numbers.now c.loop-x.x-index c.loop-x-test.true (c.requires c.loop-x.x-index 0 c.loop-x-test.true) c.field-place.ensures rest)
