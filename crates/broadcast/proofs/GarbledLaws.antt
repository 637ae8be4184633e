-- What is garbled in a run: nothing that a good station sends where it is expected; and a good station's count is that of the log's bytes. Assumes nothing.
use Prim.Native.Nat.{ℕ, suc, ◌≤◌, ◌<◌}
use mathlib.Core.Path.{◌≡◌, refl, sym, ap, ◌∙◌}
use mathlib.Core.Bool.{Bool, true, false, ◌&&◌}
use native.Mathlib.Omega.{arith}
use lib.Dec.{ltb}
use borrow.Author.Tests.{le-ltb}
use Rattle.line.specs.Line.{from_0, rounds}
use Rattle.line.specs.Ballot.{is_garbled}
use Rattle.line.proofs.CountLaws.{count_same, count_none}
use Rattle.line.proofs.BallotLaws.{bit_at_sender, bit_at_first, blank_at_second, bit_at_king}
use Rattle.broadcast.specs.Exchange.{Setting}
use Rattle.broadcast.specs.Broadcast.{part, speaks, spoken, said, sent}
use Rattle.broadcast.specs.Garbled.{reading, garbled_ballots, some_garbled, received, garbled_in, garbled_rounds}
use Rattle.broadcast.specs.Bytes.{setting, setting_of, log, outcomes}
use Rattle.broadcast.specs.Theorems.{GoodBallotsReadable, NoneMarkedNoneGarbled, CountByLog}
use Rattle.broadcast.proofs.ExchangeLaws.{good_sends}
use Rattle.broadcast.proofs.PartLaws.{part_sender, part_first, part_second, part_king, by_parts}
use Rattle.broadcast.proofs.RowLaws.{some_same}
use Rattle.broadcast.proofs.BroadcastLaws.{x_after_bit, y_after_bit, z_after_bound}
use Rattle.broadcast.proofs.BytesLaws.{log_at, column_at, good_count}

-- none garbled of those who should speak: the round is not counted
pub none_some : (n sender : ℕ) (r : ℕ) (row : ℕ → ℕ) → ((k : ℕ) → k < n → speaks sender (part r) k ≡ true → is_garbled (reading (part r) (row k)) ≡ false)
    → some_garbled n sender (part r) row ≡ false
unfolding some_garbled garbled_ballots
none_some n sender r row h = ap (ltb 0) (count_same n _ (λ k. false) (λ k l. go k l (speaks sender (part r) k) refl) ∙ count_none n) ∙ le-ltb 0 0 (omega arith)
  where
    go : (k : ℕ) → k < n → (c : Bool) → speaks sender (part r) k ≡ c → (c && is_garbled (reading (part r) (row k))) ≡ false
    go k l true e = h k l e
    go k l false e = refl

-- ---- what a station that should speak says, in every part

module _ (S : Setting) (sender_from_0 value : ℕ) (bit : value ≤ 1) where
  abbrev Readable : ℕ → Type 0
  Readable r = (i : ℕ) → is_garbled (reading (part r) (spoken S sender_from_0 value (part r) i)) ≡ false

  spoken_readable : (r : ℕ) → 1 ≤ r → Readable r
  unfolding reading spoken
  spoken_readable =
      by_parts Readable
      (λ i. rw part_sender (bit_at_sender value bit))
      (λ p i. rw (part_first p) (bit_at_first _ (x_after_bit S sender_from_0 value p i)))
      (λ p i. rw (part_second p) (blank_at_second _ (z_after_bound S sender_from_0 value p i)))
      (λ p i. rw (part_king p) (bit_at_king _ (y_after_bit S sender_from_0 value p i)))

  -- and so what a good one sends
  sent_readable : (r i j : ℕ) → 1 ≤ r → S.bad i ≡ false → speaks sender_from_0 (part r) i ≡ true
      → is_garbled (reading (part r) (sent S sender_from_0 value r i j)) ≡ false
  unfolding sent said
  sent_readable r i j h good speaks_i = rw (good_sends S r i j _ good, speaks_i) (spoken_readable r h i)

-- ---- of the bytes

pub good_ballots_readable : GoodBallotsReadable
unfolding setting
good_ballots_readable R bit r i j low high good hj speaks_i =
    rw (log_at R r i j low high good.0 hj) (sent_readable (setting_of R) (from_0 R.sender) R.value bit r i j low good.1 speaks_i)

pub none_garbled : NoneMarkedNoneGarbled
unfolding setting outcomes garbled_rounds garbled_in received
none_garbled R bit none j h =
    let S = setting_of R in
    let s = from_0 R.sender in
    good_count S _ _ _ _ j (h, none j h)
    ∙ count_same (rounds R.t) _ (λ m. false) (λ m l.
    none_some R.n s (suc m) _ (λ i k speaks_i. sent_readable S s R.value bit (suc m) i j (omega arith) (none i k) speaks_i))
    ∙ count_none (rounds R.t)

pub count_by_log : CountByLog
unfolding setting outcomes garbled_rounds garbled_in received
count_by_log R j good =
    let S = setting_of R in
    good_count S _ _ _ _ j good
    ∙ count_same (rounds R.t) _ _ (λ m l.
    some_same R.n (from_0 R.sender) (part (suc m)) _ _ (λ i h _.
    sym (column_at R.n (log R) j (suc m) i h ∙ log_at R (suc m) i j (omega arith) l h good.0)))
