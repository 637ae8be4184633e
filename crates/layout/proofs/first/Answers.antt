use Rattle.std.proofs.Common.{rules}
use Rattle.layout.specs.Layout.{first, two, byte}
use Rattle.layout.proofs.first.Goals as goal

pub returns : goal.returns
unfolding first two byte
returns c = search rules
