-- `count_foreign` meets its contract: what the chain counts, and that this is the definition's count.
use Rattle.std.proofs.Common.{rules, tests}
use mathlib.Core.Path.{◌∙◌}
use Rattle.std.proofs.lemmas.Iterator.{YieldsList-from_slice}
use Rattle.std.proofs.lemmas.Iterator.Consumers.{YieldsList-at, YieldsList-from_enumerate, YieldsList-from_filter, count_from_yields_List}
use Rattle.exchange.proofs.ExchangeLaws.{foreign_counted}
use Rattle.exchange.proofs.count_foreign.Goals as goal

pub returns : goal.returns
returns c =
    let items = YieldsList-from_enumerate (YieldsList-at c.enumerate.ensures.source (YieldsList-from_slice c.args.inputs.now cc)) c.enumerate.ensures.count in
    let passing = YieldsList-from_filter _ _ (YieldsList-at c.filter.ensures.source items) c.filter.ensures.closure (λ x b q k. search (rules, tests)) in
    count_from_yields_List c.filter.result c.count.result c.count.ensures.ran passing ∙ foreign_counted c.args.marks c.args.inputs.now
