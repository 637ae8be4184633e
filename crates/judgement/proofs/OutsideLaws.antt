-- Records outside the chain are ignored: two sheets with the same header and the same chained records are judged alike. Assumes nothing.
use Prim.Native.Nat.{ℕ, zero, suc, ◌+◌, ◌<◌}
use mathlib.Core.Path.{◌≡◌, refl, sym, ap, ◌∙◌}
use mathlib.Core.Bool.{true}
use mathlib.Core.Logic.{⊎_elim}
use mathlib.Core.List.{List}
use native.Mathlib.Nat.{add_assoc, add-zero}
use native.Mathlib.Omega.{arith}
use lib.Dec.{ltb}
use borrow.Author.Tests.{ltb-true}
use Rattle.refusal.specs.Cause.{refused_if}
use Rattle.refusal.specs.declared.cause.Cause.TheVariants.{Duplicate}
use Rattle.line.proofs.CountLaws.{count_same}
use Rattle.layout.specs.Layout.{byte, two, four, header, first, records, start, round, from, to, ballot, next, bit, rest}
use Rattle.layout.specs.Chain.{Record, reached, after}
use Rattle.layout.specs.Outside.{SameChain}
use Rattle.layout.proofs.ChainLaws.{Over, Chained, kind, after_record, after_over}
use Rattle.judgement.specs.Judgement.{ill_formed, sheet_form, verdict_to_6, verdict_to_8, misplaced, record_form, unmarked_sender, same_place, taken_before, duplicate, record_verdict, records_verdict}

-- the record with index i is the same in two sheets
abbrev pub SameRecord : List ℕ → List ℕ → ℕ → Type 0
SameRecord s s' i = (b : ℕ) → b < 8 → byte s (start i + b) ≡ byte s' (start i + b)

module _ (s s' : List ℕ) where
  -- the two bytes at b of the record
  two_same : (i b : ℕ) → SameRecord s s' i → b + 1 < 8 → two s (start i + b) ≡ two s' (start i + b)
  unfolding two
  two_same i b r h = rw (r b (omega arith), add_assoc (start i) b 1, r (b + 1) h)

  -- ---- the parts of one record

  pub round_same : (i : ℕ) → SameRecord s s' i → round s i ≡ round s' i
  unfolding round
  round_same i r = rw add-zero at (r 0 (omega arith))

  pub from_same : (i : ℕ) → SameRecord s s' i → from s i ≡ from s' i
  unfolding from
  from_same i r = r 1 (omega arith)

  pub to_same : (i : ℕ) → SameRecord s s' i → to s i ≡ to s' i
  unfolding to
  to_same i r = r 2 (omega arith)

  pub ballot_same : (i : ℕ) → SameRecord s s' i → ballot s i ≡ ballot s' i
  unfolding ballot
  ballot_same i r = r 3 (omega arith)

  next_same : (i : ℕ) → SameRecord s s' i → next s i ≡ next s' i
  unfolding next
  next_same i r = two_same i 4 r (omega arith)

  pub bit_same : (i : ℕ) → SameRecord s s' i → bit s i ≡ bit s' i
  unfolding bit
  bit_same i r = r 6 (omega arith)

  rest_same : (i : ℕ) → SameRecord s s' i → rest s i ≡ rest s' i
  unfolding rest
  rest_same i r = r 7 (omega arith)

  -- whether two records have one place
  same_place_same : (i j : ℕ) → SameRecord s s' i → SameRecord s s' j → same_place s i j ≡ same_place s' i j
  unfolding same_place
  same_place_same i j p q =
      rw (round_same i p, round_same j q, from_same i p, from_same j q, to_same i p, to_same j q, bit_same i p, bit_same j q)

module _ (s s' : List ℕ) (h : SameChain s s') where
  -- ---- the header

  -- a byte of the header
  byte_alike : (b : ℕ) → ltb b 12 ≡ true → byte s b ≡ byte s' b
  byte_alike b e = h.header_same b (ltb-true b 12 e)

  -- the header's numbers
  pub header_alike : header s ≡ header s'
  unfolding header two four
  header_alike = simp byte_alike

  -- k
  pub records_alike : records s ≡ records s'
  unfolding records
  records_alike = rw h.length_same

  -- the first index
  first_alike : first s ≡ first s'
  unfolding first two
  first_alike = simp byte_alike

  -- causes 1, 15 and 2 to 8
  pub opening_alike : (l : ℕ) → verdict_to_8 s l ≡ verdict_to_8 s' l
  unfolding verdict_to_8 verdict_to_6 sheet_form ill_formed
  opening_alike l = rw (h.length_same, records_alike, header_alike)

  -- ---- the chain

  -- where no record stands in the one, none stands in the other
  over_alike : (i : ℕ) → Over s i → Over s' i
  over_alike i o = rw records_alike at o

  -- where a record stands in the one, a record stands in the other
  record_alike : (i : ℕ) → Record s i → Record s' i
  record_alike i r = record { low = r.low; high = rw (← records_alike) r.high }

  -- what follows an index of the chain
  after_alike : (m : ℕ) → after s (reached s m) ≡ after s' (reached s m)
  after_alike m =
      let i = reached s m in
      ⊎_elim
      (λ (o : Over s i). after_over s i o ∙ sym (after_over s' i (over_alike i o)))
      (λ (r : Record s i).
      after_record s i r ∙ next_same s s' i (λ b l. h.chain_same m b r l) ∙ sym (after_record s' i (record_alike i r)))
      (kind s i)

  -- the same indices at every position
  pub reached_alike : (m : ℕ) → reached s m ≡ reached s' m
  unfolding reached
  reached_alike zero = first_alike
  reached_alike (suc m) = after_alike m ∙ ap (after s') (reached_alike m)

  -- records at the same positions
  pub chained_alike : (m : ℕ) → Record s (reached s m) → Record s' (reached s' m)
  chained_alike m r = rw (reached_alike m) at (record_alike (reached s m) r)

  -- ---- the records

  module _ (m : ℕ) (r : Record s (reached s m)) where
    -- the record at position m of the chain: its eight bytes
    pub same_record : SameRecord s s' (reached s m)
    same_record b l = h.chain_same m b r l

    -- cause 11 of it
    form_alike : record_form s (reached s m) ≡ record_form s' (reached s' m)
    unfolding record_form misplaced
    form_alike =
        let i = reached s m in
        let c = same_record in
        rw (← reached_alike m, header_alike, round_same s s' i c, from_same s s' i c, to_same s s' i c, bit_same s s' i c, rest_same s s' i c)

    -- cause 12 of it
    unmarked_alike : unmarked_sender s (reached s m) ≡ unmarked_sender s' (reached s' m)
    unfolding unmarked_sender
    unmarked_alike = rw (← reached_alike m, header_alike, from_same s s' (reached s m) same_record)

  -- cause 13, of the record at position m
  duplicate_alike : (m : ℕ) → Chained s (suc m) → duplicate s m ≡ duplicate s' m
  unfolding duplicate taken_before
  duplicate_alike m c =
      ap (λ (x : ℕ). refused_if (ltb 0 x) Duplicate)
      (count_same m (λ a. same_place s (reached s a) (reached s m)) (λ a. same_place s' (reached s' a) (reached s' m))
      (λ a l. rw (← reached_alike a, ← reached_alike m)
      (same_place_same s s' (reached s a) (reached s m) (same_record a (c a (omega arith))) (same_record m (c m (omega arith))))))

  -- the verdict of the first m records
  pub records_verdict_alike : (m : ℕ) → Chained s m → records_verdict s m ≡ records_verdict s' m
  unfolding records_verdict record_verdict
  records_verdict_alike zero c = refl
  records_verdict_alike (suc m) c =
      let r = c m (omega arith) in
      rw (records_verdict_alike m (λ a l. c a (omega arith)), form_alike m r, unmarked_alike m r, duplicate_alike m c)
