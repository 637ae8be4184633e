-- `sends` meets its contract.
use Rattle.std.proofs.Common.{◌∙◌}
use Rattle.compare.proofs.CompareLaws.{row_sends}
use Rattle.compare.proofs.sends.Goals as goal

pub returns : goal.returns
returns c = c.all_are.ensures ∙ row_sends _ _ _ _ c.args.b c.requires.0 c.requires.1
