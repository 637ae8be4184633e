-- `accept` meets its contract, by what `station::advance` promises.
use Rattle.std.proofs.Common.{rules}
use mathlib.Core.Path.{sym, ◌∙◌}
use Rattle.offer.proofs.OfferLaws.{accepted_next, accepted_refused}
use Rattle.offer.specs.Offers.{accepting_verdict}
use Rattle.offer.proofs.accept.Goals as goal

pub returns : goal.returns
returns c = accepted_next _ _ {next = c.in_ok-advance.field-0} (search rules) _ _ c.compared.ensures

pub returns-in_err-advance : goal.returns-in_err-advance
unfolding accepting_verdict
returns-in_err-advance c = search (rules, accepted_refused)
