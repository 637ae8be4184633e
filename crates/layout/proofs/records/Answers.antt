use Rattle.std.proofs.Common.{rules}
use Rattle.layout.specs.Layout.{records}
use Rattle.layout.proofs.records.Goals as goal

pub returns : goal.returns
unfolding records
returns c = search rules
