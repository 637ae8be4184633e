-- `exchange` meets its contract: what is accepted is `ready` and is written, what is refused is left. `exchanged` is the promise.
use Rattle.std.proofs.Common.{rules}
use Rattle.exchange.proofs.ExchangeLaws.{ready, exchanged}
use mathlib.Core.Path.{refl}
use Rattle.exchange.proofs.exchange.Goals as goal

pub write_outcomes-requires : goal.write_outcomes-requires
write_outcomes-requires c =
    let g = c.args in
    ready g.line.n g.line.t g.line.upper g.marks g.inputs.now _ _ _ (search rules) refl

pub returns : goal.returns
returns c =
    let g = c.args in
    exchanged g.line.n g.line.t g.line.upper g.marks g.inputs.now g.table.now g.outcomes.now _ _ (search rules) c.write_outcomes.ensures

pub returns-in_err-judge : goal.returns-in_err-judge
returns-in_err-judge c =
    let g = c.args in
    exchanged g.line.n g.line.t g.line.upper g.marks g.inputs.now g.table.now g.outcomes.now _ _ (search rules) (search rules)
