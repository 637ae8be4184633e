-- `found` meets its contract.
use Rattle.std.proofs.Common.{◌≡◌, rules, arith, sym}
use Rattle.line.proofs.FromFnLaws.{each_from_fn}
use Rattle.garbled.proofs.FoundLaws.{none_of, row_added, row_passed, found_all, found_not, found_nobody}
use Rattle.garbled.proofs.found.Goals as goal
use Rattle.garbled.proofs.found.Goals.{then-senders-eq0-via-then-senders-eq0, then-senders-eq0-via-else-senders-eq0+then-not-has_round, then-looked_at, else-looked_at}

pub returns-then-senders-eq0 : goal.returns-then-senders-eq0
returns-then-senders-eq0 c =
    elim c.then-senders-eq0.branch [
      | then-senders-eq0-via-then-senders-eq0 w ↦ rw w.if-senders-eq0.true (found_nobody _ _ _ _ _)
      | then-senders-eq0-via-else-senders-eq0+then-not-has_round w ↦ found_not _ _ _ _ _ _ (sym w.if-not-has_round.ensures)
    ]

pub loop-i-init : goal.loop-i-init
loop-i-init c = none_of _ _ _ _ _ _

pub loop-i-preserved : goal.loop-i-preserved
loop-i-preserved c =
    elim c.if-looked_at.branch [
      | then-looked_at w ↦
          let higher = each_from_fn _ _ _ _ (λ j r f' h call. search rules) _ w.from_fn-highest.ensures.items in
          rw w.highest-is
          (row_added _ _ _ _ _ _ _ _ _ _ (sym c.if-not-has_round.ensures) c.loop-i-test.true (sym w.if-looked_at.ensures) c.loop-i.invariant w.sent_by-row.ensures higher)
      | else-looked_at w ↦ rw w.highest-is (row_passed _ _ _ _ _ _ _ _ (sym w.if-looked_at.ensures) c.loop-i.invariant)
    ]

pub returns : goal.returns
returns c =
    let e : c.loop-i.i ≡ c.args.line.n = omega arith in
    found_all _ _ _ _ _ _ c.loop-i.highest _ _ (sym c.if-not-has_round.ensures) c.above-bound.ensures (rw e at c.loop-i.invariant)
    (each_from_fn _ _ _ _ (λ j r f' h call. search rules) _ c.from_fn.ensures.items)
