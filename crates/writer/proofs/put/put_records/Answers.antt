-- `put::put_records` meets its contract.
use Rattle.std.proofs.Common.{◌≡◌, ◌∙◌, sym, arith}
use Rattle.writer.proofs.RecordLaws.{bit_starts, round_ends, bit_ends, all_counted}
use Rattle.writer.proofs.put.put_records.Goals as goal
use Rattle.writer.proofs.put.put_records.Goals.{else-loop-round-test, then-loop-round-test+else-done-k+else-round-last}

pub loop-round-init : goal.loop-round-init
loop-round-init c =
    let l = c.args.h.line in
    (bit_starts l.n l.t c.loop-bit.bit _ _ c.loop-bit.invariant.0, c.loop-bit.invariant.1)

pub loop-round-preserved : goal.loop-round-preserved
loop-round-preserved c =
    let l = c.args.h.line in
    let p = c.put_round-done.ensures in
    (round_ends l.n l.t c.loop-bit.bit c.loop-round.round _ _ (omega arith) p.0, λ s e. p.1 s (c.loop-round.invariant.1 s e))

pub loop-bit-preserved : goal.loop-bit-preserved
loop-bit-preserved c =
    let l = c.args.h.line in
    elim c.loop-round-test.branch [
      | else-loop-round-test w ↦ let no : ⊥ = omega arith in elim no [ ]
      | then-loop-round-test+else-done-k+else-round-last w ↦
          let p = w.put_round-done.ensures in
          let ends = round_ends l.n l.t c.loop-bit.bit c.loop-round.round _ _ (omega arith) p.0 in
          rw (w.done-is, w.sheet-is) (bit_ends l.n l.t c.loop-bit.bit c.loop-round.round _ _ (omega arith) ends, λ s e. p.1 s (c.loop-round.invariant.1 s e))
    ]

pub returns : goal.returns
returns c =
    let inv = c.loop-bit.invariant in
    let all : c.loop-bit.done ≡ c.args.k = all_counted c.args.h c.args.table.now c.loop-bit.bit _ (omega (arith, c.bits-bit-end.ensures)) inv.0 ∙ sym c.requires.1 in
    λ s e. rw all at (inv.1 s e)
