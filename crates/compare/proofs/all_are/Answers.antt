-- `all_are` meets its contract: by all of a short row, by the first 16 and the last 16 of another.
use Rattle.std.proofs.Common.{◌≡◌, ◌≢◌, rules, refl, ◌∙◌}
use borrow.Author.Tests.{tests}
use Rattle.std.proofs.lemmas.Iterator.{cases_from_all, YieldsList-from_slice}
use Rattle.compare.proofs.CompareLaws.{each_told, both_told}
use Rattle.compare.proofs.all_are.Goals as goal

pub returns-in_default : goal.returns-in_default
returns-in_default c =
    let row = c.args.row.now in
    let b = c.args.b in
    each_told row b _
    (cases_from_all _ _ _ (λ x. x ≡ b) (λ x. x ≢ b) c.all.ensures.ran (YieldsList-from_slice row cc) (λ x q k. search (rules, tests)) (λ x q k. search (rules, tests)))

pub returns-then-eq : goal.returns-then-eq
returns-then-eq c =
    let first = c.in-Some-Some.ensures.cases in
    let last = c.in-Some-Some.ensures'.cases in
    rw c.if-eq.true at (both_told c.args.row.now c.args.b _ _ c.eq.result c.eq-then-eq.result last.0 c.requires first.same last.1.same c.eq.ensures c.eq-then-eq.ensures)

pub returns-else-eq : goal.returns-else-eq
returns-else-eq c =
    let first = c.in-Some-Some.ensures.cases in
    let last = c.in-Some-Some.ensures'.cases in
    c.if-eq.false
    ∙ (rw c.if-eq.false at (both_told c.args.row.now c.args.b _ _ c.eq.result _ last.0 c.requires first.same refl c.eq.ensures refl))
