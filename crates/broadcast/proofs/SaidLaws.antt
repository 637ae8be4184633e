-- What the steps make a station send, part by part, and in the document's own rounds. Assumes nothing.
use Prim.Native.Nat.{ℕ, ◌+◌, ◌-◌, ◌*◌, ◌≤◌, ◌<◌}
use mathlib.Core.Path.{◌≡◌, refl, ap, ◌∙◌}
use mathlib.Core.Logic.{◌≢◌}
use native.Mathlib.Omega.{arith}
use borrow.Author.Tests.{eq-eqb, ne_eqb}
use Rattle.line.specs.Line.{from_0, rounds, place}
use Rattle.line.specs.Marks.{marked}
use Rattle.line.specs.Ballot.{silence}
use Rattle.broadcast.specs.Exchange.{Setting, sends, second_row}
use Rattle.broadcast.specs.Broadcast.{first_round, x_after, z_after, y_after, speaks, spoken, said, sent}
use Rattle.broadcast.specs.Station.{at}
use Rattle.broadcast.specs.Bytes.{setting, Run, setting_of, log}
use Rattle.broadcast.specs.Guarantees.{Good}
use Rattle.broadcast.specs.Theorems.{SentByRounds}
use Rattle.broadcast.proofs.ExchangeLaws.{good_sends}
use Rattle.broadcast.proofs.PartLaws.{part_sender, part_first, part_second, part_king, first_is}
use Rattle.broadcast.proofs.BytesLaws.{log_at}

module _ (S : Setting) (sender_from_0 value : ℕ) where
  pub said_first : (p i : ℕ) → said S sender_from_0 value (first_round p) i ≡ x_after S sender_from_0 value p i
  unfolding said speaks spoken
  said_first p i = rw (part_first p)

  pub said_second : (p i : ℕ) → said S sender_from_0 value (first_round p + 1) i ≡ z_after S sender_from_0 value p i
  unfolding said speaks spoken
  said_second p i = rw (part_second p)

  pub said_king : (p : ℕ) → said S sender_from_0 value (first_round p + 2) p ≡ y_after S sender_from_0 value p p
  unfolding said speaks spoken
  said_king p = rw (part_king p, eq-eqb p p refl)

  pub said_sender : said S sender_from_0 value 1 sender_from_0 ≡ value
  unfolding said speaks spoken
  said_sender = rw (part_sender, eq-eqb sender_from_0 sender_from_0 refl)

  pub said_not_king : (p i : ℕ) → i ≢ p → said S sender_from_0 value (first_round p + 2) i ≡ silence
  unfolding said speaks
  said_not_king p i h = rw (part_king p, ne_eqb i p h)

  pub said_not_sender : (i : ℕ) → i ≢ sender_from_0 → said S sender_from_0 value 1 i ≡ silence
  unfolding said speaks
  said_not_sender i h = rw (part_sender, ne_eqb i sender_from_0 h)

  -- the second round's bytes are the exchange's second row
  pub sent_second : (p i j : ℕ) → sent S sender_from_0 value (first_round p + 1) i j ≡ second_row S (first_round p) (x_after S sender_from_0 value p) j i
  unfolding sent second_row z_after
  sent_second p i j = ap (sends S (first_round p + 1) i j) (said_second p i)

-- ---- in the document's rounds

module _ (R : Run) (low : 1 ≤ R.sender) (i j : ℕ) (g : Good R.n (marked R.marks) i) (hj : j < R.n) where
  -- good station i's byte in round r
  byte : (r : ℕ) → 1 ≤ r → r ≤ rounds R.t → at (log R) (place R.n r i j) ≡ said (setting_of R) (from_0 R.sender) R.value r i
  unfolding sent setting
  byte r a b = log_at R r i j a b g.0 hj ∙ good_sends (setting_of R) r i j _ g.1

  -- round r is the one that d rounds after the first of phase p + 1
  byte_of : (r p d : ℕ) → r ≡ first_round p + d → r ≤ rounds R.t
      → at (log R) (place R.n r i j) ≡ said (setting_of R) (from_0 R.sender) R.value (first_round p + d) i
  byte_of r p d e b = byte r (omega (arith, first_is p)) b ∙ ap (λ (q : ℕ). said (setting_of R) (from_0 R.sender) R.value q i) e

  pub sent_by_rounds : SentByRounds R i j
  sent_by_rounds =
      let S = setting_of R in
      let s = from_0 R.sender in
      let v = R.value in
      record {
        sender = λ e. let q : i ≡ R.sender - 1 = omega arith in byte 1 (omega arith) (omega arith) ∙ rw q (said_sender S s v);
        not_sender = λ ne. byte 1 (omega arith) (omega arith) ∙ said_not_sender S s v i (λ e. ne (omega arith));
        first = λ p a b.
            let e : 3 * p - 1 ≡ first_round (p - 1) + 0 = omega (arith, first_is (p - 1)) in
            let z : first_round (p - 1) + 0 ≡ first_round (p - 1) = omega arith in
            byte_of (3 * p - 1) (p - 1) 0 e (omega arith) ∙ rw z (said_first S s v (p - 1) i);
        second = λ p a b.
            byte_of (3 * p) (p - 1) 1 (omega (arith, first_is (p - 1))) (omega arith) ∙ said_second S s v (p - 1) i;
        king = λ p a b e.
            let q : i ≡ p - 1 = omega arith in
            byte_of (3 * p + 1) (p - 1) 2 (omega (arith, first_is (p - 1))) (omega arith) ∙ rw q (said_king S s v (p - 1));
        not_king = λ p a b ne.
            byte_of (3 * p + 1) (p - 1) 2 (omega (arith, first_is (p - 1))) (omega arith)
            ∙ said_not_king S s v (p - 1) i (λ e. ne (omega arith));
      }
