-- One ballot more counts for a value, or is garbled, or neither.
use Rattle.std.proofs.Common.{rules, ℕ, ◌≡◌, ◌+◌, ◌<◌, Bool, List, length, take, get_or, cond, sym, arith}
use Rattle.std.specs.List.{count_by}
use Rattle.std.proofs.lemmas.Grind.{common_steps}
use Rattle.std.proofs.lemmas.List.Sums.{sum_by_more}
use Rattle.station.proofs.tally.Tally.of.Goals as goal

one_more : (p : ℕ → Bool) (row : List ℕ) (i a k : ℕ) → i < length row → a ≡ count_by p (take i row) → k ≡ cond (p (get_or row i 0)) 1 0
    → a + k ≡ count_by p (take (i + 1) row)
one_more p row i a k h e f = rw (e, f) (sym (sum_by_more (λ x. cond (p x) 1 0) row i 0 h))

pub loop-b-preserved : goal.loop-b-preserved
loop-b-preserved g c = (
  grind (arith, common_steps),
  grind (arith, common_steps),
  grind (arith, common_steps),
  λ reading reads.
      let e : c.read-ballot.result ≡ reading (get_or c.args.row.now c.loop-b.b-index 0) = search (rules, reads) in
      let (z, o, k) = c.loop-b.invariant.3 reading reads in
      let more = λ (p : ℕ → Bool). one_more p c.args.row.now c.loop-b.b-index in
      (more _ _ _ (omega arith) z (rw (← e, ← c.bit_or-bit.ensures) (search rules)), more _ _ _ (omega arith) o (rw (← e, ← c.bit_or-bit.ensures) (search rules)), more _ _ _ (omega arith) k (rw (← e) (search rules))),
)
