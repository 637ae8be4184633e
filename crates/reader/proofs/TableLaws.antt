-- Laws of the table of an accepted sheet: each chained ballot in its place, silence everywhere else. Assumes nothing.
use Prim.Native.Nat.{ℕ, zero, suc, ◌+◌, ◌-◌, ◌*◌, ◌≤◌, ◌<◌}
use mathlib.Core.Path.{◌≡◌, refl, sym}
use mathlib.Core.Bool.{Bool, true, false}
use mathlib.Core.Logic.{◌≢◌, ⊎_elim}
use mathlib.Core.List.{List}
use native.Mathlib.Nat.{eq-or-lt_of_le, le_of_suc-le-suc}
use native.Mathlib.Omega.{arith}
use lib.ListN.{length, get_or, length-set, length-replicate, get_or-replicate}
use lib.Seq.{get_or-set_same, get_or-set_other}
use borrow.Author.Tests.{ltb-false, not-false}
use Rattle.line.specs.Line.{rounds, place}
use Rattle.line.specs.Width.{bits}
use Rattle.line.specs.Marks.{marked}
use Rattle.line.specs.Count.{count}
use Rattle.refusal.specs.Cause.{◌or_else◌, no_cause}
use Rattle.line.proofs.CountLaws.{none_passes}
use Rattle.refusal.proofs.VerdictLaws.{never, accepted_false, both_accepted}
use Rattle.layout.specs.Layout.{header, table_wanted, tables_wanted, from, ballot}
use Rattle.layout.specs.Chain.{Record, reached, Ends, Fate, leaves, again, ends}
use Rattle.judgement.specs.Judgement.{misplaced, record_form, unmarked_sender, same_place, taken_before, duplicate, record_verdict, records_verdict, verdict_to_8, chain_verdict, sheet_verdict}
use Rattle.reader.specs.Reading.{place_of, filled, table_of}
use Rattle.layout.proofs.ChainLaws.{before_end}
use Rattle.reader.proofs.PlaceLaws.{InPlace, bit_inside, from_told_at, in_place, place_inside, from_told, place_tells}

module _ (s : List ℕ) where
  -- ---- the records of the chain

  -- where the first m records are accepted, each of them is
  pub judged : (m a : ℕ) → records_verdict s m ≡ no_cause → a < m → record_verdict s a ≡ no_cause
  unfolding records_verdict
  judged zero a v h = absurd (omega arith)
  judged (suc m) a v h =
      let (w, x) = both_accepted (records_verdict s m) (record_verdict s m) v in
      ⊎_elim (λ (e : a ≡ m). rw e x) (λ (l : a < m). judged m a w l) (eq-or-lt_of_le (le_of_suc-le-suc h))

  -- an accepted record passes 11, 12 and 13
  pub all_three : (a : ℕ) → record_verdict s a ≡ no_cause
      → (record_form s (reached s a) ≡ no_cause) × (unmarked_sender s (reached s a) ≡ no_cause) × (duplicate s a ≡ no_cause)
  unfolding record_verdict
  all_three a v =
      let i = reached s a in
      let (x, w) = both_accepted (record_form s i) (unmarked_sender s i or_else duplicate s a) v in
      let (y, z) = both_accepted (unmarked_sender s i) (duplicate s a) w in
      (x, y, z)

  -- so cause 11 does not hold of it
  pub judged_form : (a : ℕ) → record_verdict s a ≡ no_cause → misplaced s (reached s a) ≡ false
  unfolding record_form
  judged_form a v = accepted_false _ _ (all_three a v).0

  -- its numbers are in their ranges
  pub judged_place : (a : ℕ) → record_verdict s a ≡ no_cause → InPlace s (reached s a)
  judged_place a v = in_place s (reached s a) (judged_form a v)

  -- its sender is marked
  pub judged_marked : (a : ℕ) → record_verdict s a ≡ no_cause → marked (header s).marks (from s (reached s a) - 1) ≡ true
  unfolding unmarked_sender
  judged_marked a v = not-false _ (accepted_false _ _ (all_three a v).1)

  -- and no earlier record has its round, from, to and bit
  pub judged_new : (a b : ℕ) → a < b → record_verdict s b ≡ no_cause → same_place s (reached s a) (reached s b) ≡ false
  unfolding duplicate taken_before
  judged_new a b h v =
      let taken : ℕ → Bool = λ k. same_place s (reached s k) (reached s b) in
      none_passes b taken (omega (arith, ltb-false 0 (count b taken) (accepted_false _ _ (all_three b v).2))) a h

  -- so accepted records have places of their own
  pub places_apart : (m a b : ℕ) → records_verdict s m ≡ no_cause → a < b → b < m
      → place_of s (reached s a) ≢ place_of s (reached s b)
  places_apart m a b v h l e =
      let x = judged m a v (omega arith) in
      let y = judged m b v l in
      let t = place_tells s (reached s a) (reached s b) (judged_place a x) (judged_place b y) e in
      let f = judged_new a b h y in
      let z : ◌≡◌ {A = ℕ} 0 1 = cc in
      omega arith

  -- ---- the table

  -- as long as all bits' tables
  pub filled_length : (m : ℕ) → length (filled s m) ≡ tables_wanted s
  unfolding filled
  filled_length zero = length-replicate (tables_wanted s) 255
  filled_length (suc m) = simp length-set (filled_length m)

  -- each of the first m ballots in its place
  pub filled_at : (m a : ℕ) → records_verdict s m ≡ no_cause → a < m
      → get_or (filled s m) (place_of s (reached s a)) 0 ≡ ballot s (reached s a)
  unfolding filled records_verdict
  filled_at zero a v h = absurd (omega arith)
  filled_at (suc m) a v h =
      let (w, x) = both_accepted (records_verdict s m) (record_verdict s m) v in
      ⊎_elim
      (λ (e : a ≡ m).
      let l : place_of s (reached s m) < length (filled s m) = rw filled_length (place_inside s (reached s m) (judged_place m x)) in
      rw (e, get_or-set_same))
      (λ (l : a < m).
      let ne : place_of s (reached s a) ≢ place_of s (reached s m) = places_apart (suc m) a m v l (omega arith) in
      rw get_or-set_other (filled_at m a w l))
      (eq-or-lt_of_le (le_of_suc-le-suc h))

  -- silence in every other place
  pub filled_else : (m p : ℕ) → p < tables_wanted s
      → ((a : ℕ) → a < m → place_of s (reached s a) ≢ p) → get_or (filled s m) p 0 ≡ 255
  unfolding filled
  filled_else zero p h none = get_or-replicate (tables_wanted s) p 255 0 h
  filled_else (suc m) p h none =
      let ne : p ≢ place_of s (reached s m) = λ e. none m (omega arith) (sym e) in
      rw get_or-set_other (filled_else m p h (λ a l. none a (omega arith)))

  -- ---- an accepted sheet

  -- a chain that ends, with m accepted records and the table that they fill
  abbrev pub Read : Fate s → Type 0
  Read f = (m : ℕ) × (Ends s m × ((records_verdict s m ≡ no_cause) × (table_of s f ≡ filled s m)))

  -- such is the chain of every accepted sheet
  pub accepted_ends : (l : ℕ) (f : Fate s) → sheet_verdict s l f ≡ no_cause → Read f
  unfolding sheet_verdict
  accepted_ends l f v = go f (both_accepted (verdict_to_8 s l) (chain_verdict s f) v).1
    where
      go : (g : Fate s) → chain_verdict s g ≡ no_cause → Read g
      go (leaves x) w = never w
      go (again x) w = never w
      go (ends m e) w = (m, (e, (w, refl)))

  -- its tables have their length
  pub table_long : (l : ℕ) (f : Fate s) → sheet_verdict s l f ≡ no_cause → length (table_of s f) ≡ tables_wanted s
  table_long l f v = let (m, (e, (w, t))) = accepted_ends l f v in rw t (filled_length m)

  -- the ballot of each chained record stands in its place
  pub ballots_stand : (l : ℕ) (f : Fate s) → sheet_verdict s l f ≡ no_cause
      → (a : ℕ) → Record s (reached s a) → get_or (table_of s f) (place_of s (reached s a)) 0 ≡ ballot s (reached s a)
  ballots_stand l f v a r =
      let (m, (e, (w, t))) = accepted_ends l f v in
      rw t (filled_at m a w (before_end s m a e r))

  -- silence stands in every other
  pub else_silence : (l : ℕ) (f : Fate s) → sheet_verdict s l f ≡ no_cause
      → (p : ℕ) → p < tables_wanted s
      → ((a : ℕ) → Record s (reached s a) → place_of s (reached s a) ≢ p) → get_or (table_of s f) p 0 ≡ 255
  else_silence l f v p h none =
      let (m, (e, (w, t))) = accepted_ends l f v in
      rw t (filled_else m p h (λ a q. none a (e.chained a q)))

  -- and so at every sender that is not marked, since a chained record's is
  pub unmarked_silent : (l : ℕ) (f : Fate s) → sheet_verdict s l f ≡ no_cause
      → (b r i j : ℕ) → b < bits (header s).w → 1 ≤ r → r ≤ rounds (header s).line.t → i < (header s).line.n → j < (header s).line.n
      → marked (header s).marks i ≡ false → get_or (table_of s f) (b * table_wanted s + place (header s).line.n r i j) 0 ≡ 255
  unmarked_silent l f v b r i j hb hr hR hi hj u =
      let (m, (e, (w, t))) = accepted_ends l f v in
      else_silence l f v (b * table_wanted s + place (header s).line.n r i j) (bit_inside s b r i j hr hR hi hj hb)
      (λ a q same.
      let x = judged m a w (before_end s m a e q) in
      let y : from s (reached s a) - 1 ≡ i = cc (from_told s (reached s a) (judged_place a x), from_told_at s b r i j hr hR hi hj) in
      let k : marked (header s).marks (from s (reached s a) - 1) ≡ true = judged_marked a x in
      let z : ◌≡◌ {A = ℕ} 0 1 = cc in
      omega arith)
