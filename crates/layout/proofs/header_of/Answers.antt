-- `header_of` meets its contract.
use Rattle.std.proofs.Common.{rules}
use Rattle.layout.specs.Layout.{header, two, four, byte}
use Rattle.layout.proofs.header_of.Goals as goal

pub returns : goal.returns
unfolding header four two byte
returns c = search rules
