-- `station_line` meets its contract.
use Rattle.std.proofs.Common.{◌+◌, ◌*◌, get_or, rules, arith}
use Rattle.line.specs.Line.{outcome_size}
use Rattle.line.specs.Writing.{Each}
use Rattle.line.proofs.FromFnLaws.{each_from_fn}
use Rattle.text.proofs.LaidLaws.{puts_then}
use Rattle.listing_lines.proofs.LineLaws.{puts_number, bad_array, good_array}
use Rattle.listing_lines.proofs.station_line.Goals as goal

pub returns-then-outcome-eq-BAD : goal.returns-then-outcome-eq-BAD
returns-then-outcome-eq-BAD c =
    let its : Each outcome_size c.from_fn-outcome.result (λ k. get_or c.args.outcomes.now (outcome_size * c.args.i + k) 0) =
    each_from_fn _ _ _ _ (λ i r f' h call. search rules) _ c.from_fn-outcome.ensures.items in
    rw (bad_array c.args.outcomes.now c.args.i c.from_fn-outcome.result c.from_fn-outcome.ensures.items.long its c.if-outcome-eq-BAD.true)
    (puts_then (puts_number (omega arith) c.number-a.ensures) c.word.ensures)

pub returns : goal.returns
returns c =
    let its : Each outcome_size c.from_fn-outcome.result (λ k. get_or c.args.outcomes.now (outcome_size * c.args.i + k) 0) =
    each_from_fn _ _ _ _ (λ i r f' h call. search rules) _ c.from_fn-outcome.ensures.items in
    rw (good_array c.args.outcomes.now c.args.i c.from_fn-outcome.result c.from_fn-outcome.ensures.items.long its c.if-outcome-eq-BAD.false)
    (puts_then (puts_number (omega arith) c.number-a.ensures) c.fields.ensures)
