-- `obey` meets its contract, by what its closure gives.
use Rattle.std.proofs.Common.{rules}
use Rattle.line.proofs.FromFnLaws.{each_from_fn}
use Rattle.all_stations.proofs.obey.Goals as goal

pub returns : goal.returns
returns c = each_from_fn _ _ _ _ (λ i r f' h call. search rules) _ c.from_fn.ensures.items
