-- `write_outcomes` meets its contract.
use mathlib.Core.Path.{◌∙◌}
use Rattle.exchange.proofs.ExchangeLaws.{outcomes_written}
use Rattle.exchange.proofs.write_outcomes.Goals as goal

pub returns : goal.returns
returns c =
    c.write.ensures
    ∙ outcomes_written _ _ _ _ _ _ c.requires.most c.requires.table_whole _ c.exchanged-done.ensures _ c.requires.outcomes_whole
