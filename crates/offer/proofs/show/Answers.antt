-- `show` meets its contract, by what `station::advance` and `station::ballot` promise.
use Rattle.std.proofs.Common.{rules}
use mathlib.Core.Path.{sym, ◌∙◌}
use Rattle.offer.proofs.OfferLaws.{shown_next, shown_refused}
use Rattle.offer.proofs.show.Goals as goal

pub returns : goal.returns
returns c = shown_next _ _ {next = c.in_ok-next.next} (search rules) _ c.offer_of.ensures

pub returns-in_err-next : goal.returns-in_err-next
returns-in_err-next c = search (rules, shown_refused)
