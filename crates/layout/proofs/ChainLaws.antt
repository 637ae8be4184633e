-- Laws of the chain: what it comes to, that it comes to one thing only, and that walking k steps tells which. Assumes nothing.
use Prim.Native.Nat.{ℕ, zero, suc, ◌+◌, ◌-◌, ◌*◌, ◌≤◌, ◌<◌}
use mathlib.Core.Path.{◌≡◌, refl, sym, ap, ◌∙◌}
use mathlib.Core.Bool.{Bool, true, false}
use mathlib.Core.Logic.{◌⊎◌, inl, inr, ⊎_elim}
use mathlib.Core.List.{List}
use native.Mathlib.Nat.{add-zero, add-suc, zero-mul, suc-mul, mul-le-mul_left, eq-or-lt_of_le}
use native.Mathlib.Numerals.{add-one}
use native.Mathlib.Omega.{arith}
use lib.Dec.{leb}
use borrow.Author.Tests.{leb-true, leb-false, le-leb, lt-leb}
use Rattle.line.proofs.CountLaws.{le_or_lt}
use Rattle.layout.specs.Layout.{records, next}
use Rattle.layout.specs.Chain.{Record, is_record, after, reached, Leaves, Again, Ends, Fate, leaves, again, ends}
use Rattle.layout.specs.Theorems.{WalkTells}
use Rattle.layout.proofs.PigeonholeLaws.{pigeonhole}

-- no record stands at the index i: it is 0, which ends the chain, or above k
abbrev pub Over : List ℕ → ℕ → Type 0
Over s i = (i ≡ 0) ⊎ (records s < i)

-- records stand at the first m positions of the chain
abbrev pub Chained : List ℕ → ℕ → Type 0
Chained s m = (a : ℕ) → a < m → Record s (reached s a)

module _ (s : List ℕ) where
  -- ---- one index

  -- an index is one or the other; this computes
  unfoldable pub kind : (i : ℕ) → Over s i ⊎ Record s i
  kind i = go (leb 1 i) (leb i (records s)) refl refl
    where
      go : (a b : Bool) → leb 1 i ≡ a → leb i (records s) ≡ b → Over s i ⊎ Record s i
      go false b p q = inl (inl (omega (arith, leb-false 1 i p)))
      go true false p q = inl (inr (leb-false i (records s) q))
      go true true p q = inr (record { low = leb-true 1 i p; high = leb-true i (records s) q })

  -- and not both
  pub not_both : (i : ℕ) → Over s i → Record s i → ⊥
  not_both i o r = ⊎_elim (λ (z : i ≡ 0). omega arith) (λ (h : records s < i). omega arith) o

  -- the test tells which
  pub record_true : (i : ℕ) → Record s i → is_record s i ≡ true
  unfolding is_record
  record_true i r = rw (le-leb 1 i r.low, le-leb i (records s) r.high)

  pub over_false : (i : ℕ) → Over s i → is_record s i ≡ false
  unfolding is_record
  over_false i o =
      ⊎_elim
      (λ (z : i ≡ 0). rw (lt-leb 1 i (omega arith)))
      (λ (h : records s < i). rw (le-leb 1 i (omega arith), lt-leb i (records s) h))
      o

  -- and what the test tells holds
  pub true_record : (i : ℕ) → is_record s i ≡ true → Record s i
  true_record i e =
      ⊎_elim
      (λ (o : Over s i). let z : ◌≡◌ {A = ℕ} 0 1 = cc (over_false i o) in absurd (omega arith))
      (λ (r : Record s i). r)
      (kind i)

  pub false_over : (i : ℕ) → is_record s i ≡ false → Over s i
  false_over i e =
      ⊎_elim
      (λ (o : Over s i). o)
      (λ (r : Record s i). let z : ◌≡◌ {A = ℕ} 0 1 = cc (record_true i r) in absurd (omega arith))
      (kind i)

  -- a record's next index follows it
  pub after_record : (i : ℕ) → Record s i → after s i ≡ next s i
  unfolding after
  after_record i r = rw (record_true i r)

  -- where no record stands the chain stays
  pub after_over : (i : ℕ) → Over s i → after s i ≡ i
  unfolding after
  after_over i o = rw (over_false i o)

  -- ---- later positions

  -- one position more, as a loop counts
  pub reached_next : (m : ℕ) → Record s (reached s m) → reached s (m + 1) ≡ next s (reached s m)
  unfolding reached
  reached_next m r = rw add-one (after_record (reached s m) r)

  -- from a position without a record on, the index stays
  pub stays : (m d : ℕ) → Over s (reached s m) → reached s (m + d) ≡ reached s m
  unfolding reached
  stays m zero o = rw add-zero
  stays m (suc d) o = rw (add-suc, stays m d o) (after_over (reached s m) o)

  -- at every later position
  pub rests : (m l : ℕ) → m ≤ l → Over s (reached s m) → reached s l ≡ reached s m
  rests m l h o = ap (reached s) (omega arith) ∙ stays m (l - m) o

  -- two positions where no record stands have one index
  pub one_rest : (m l : ℕ) → Over s (reached s m) → Over s (reached s l) → reached s m ≡ reached s l
  one_rest m l o p =
      ⊎_elim (λ (h : m ≤ l). sym (rests m l h o)) (λ (h : l < m). rests l m (omega arith) p) (le_or_lt m l)

  -- what follows equal indices is equal
  pub follow : (a b d : ℕ) → reached s a ≡ reached s b → reached s (a + d) ≡ reached s (b + d)
  unfolding reached
  follow a b zero e = rw (add-zero a, add-zero b) e
  follow a b (suc d) e = rw (add-suc a d, add-suc b d, follow a b d e)

  -- an index reached again after p steps is reached again after q times p
  pub again_and_again : (a p q : ℕ) → reached s (a + p) ≡ reached s a → reached s (a + q * p) ≡ reached s a
  again_and_again a p zero e = ap (reached s) (omega (arith, zero-mul p))
  again_and_again a p (suc q) e =
      ap (reached s) (omega (arith, suc-mul q p)) ∙ follow (a + p) a (q * p) e ∙ again_and_again a p q e

  -- where a record is reached again, every index reached is a record's
  pub never_over : Again s → (m : ℕ) → Over s (reached s m) → ⊥
  never_over w m o =
      let a = w.early in
      let p = w.late - a in
      let e : reached s (a + p) ≡ reached s a = ap (reached s) (omega arith) ∙ w.same in
      let far : m * 1 ≤ m * p = mul-le-mul_left m (omega arith) in
      let z : reached s a ≡ reached s m = sym (again_and_again a p m e) ∙ rests m (a + m * p) (omega arith) o in
      not_both (reached s a) (rw z o) w.a_record

  -- ---- only one can arise

  -- a chain that leaves repeats no record
  pub leaves_or_again : Leaves s → Again s → ⊥
  leaves_or_again l w = never_over w l.where_it_does (inr l.above)

  -- nor does one that ends
  pub ends_or_again : (m : ℕ) → Ends s m → Again s → ⊥
  ends_or_again m e w = never_over w m (inl e.zero_there)

  -- which does not leave either
  pub ends_or_leaves : (m : ℕ) → Ends s m → Leaves s → ⊥
  ends_or_leaves m e l = omega (arith, one_rest m l.where_it_does (inl e.zero_there) (inr l.above))

  -- the three together
  pub only_one : (Leaves s → Again s → ⊥) × ((m : ℕ) → Ends s m → (Leaves s → ⊥) × (Again s → ⊥))
  only_one = (leaves_or_again, λ m e. (ends_or_leaves m e, ends_or_again m e))

  -- a chain that ends has no record after its end
  pub before_end : (m a : ℕ) → Ends s m → Record s (reached s a) → a < m
  before_end m a e r =
      ⊎_elim
      (λ (h : m ≤ a). absurd (omega (arith, rests m a h (inl e.zero_there))))
      (λ (h : a < m). h)
      (le_or_lt m a)

  -- of two lengths that it has, none is longer
  pub no_longer : (m l : ℕ) → Ends s m → Ends s l → m ≤ l
  no_longer m l e g =
      ⊎_elim
      (λ (h : m ≤ l). h)
      (λ (h : l < m). absurd (omega (arith, e.chained l h)))
      (le_or_lt m l)

  -- and so it has one length
  pub one_length : (m l : ℕ) → Ends s m → Ends s l → m ≡ l
  one_length m l e g = omega (arith, no_longer m l e g, no_longer l m g e)

  -- ---- as a loop goes along a chain of m records

  -- a record stands at every position before the end
  pub at_record : (m a i : ℕ) → Ends s m → a < m → i ≡ reached s a → Record s i
  at_record m a i e h q = rw q (e.chained a h)

  -- and its next index at the position after
  pub goes_on : (a i j : ℕ) → i ≡ reached s a → Record s i → j ≡ next s i → j ≡ reached s (a + 1)
  goes_on a i j q r e = rw (reached_next a (rw (← q) r), ← q) e

  -- ---- every chain has a fate

  -- of k + 1 records one stands twice
  pub reached_again : Chained s (records s + 1) → Again s
  reached_again h =
      let (a, (b, (ab, (bk, e)))) = pigeonhole (records s) (reached s) (λ m l. let r = h m (omega arith) in (r.low, r.high)) in
      record { early = a; late = b; order = ab; a_record = h a (omega arith); same = sym e }

  -- one record more
  pub one_more : (m : ℕ) → Chained s m → Record s (reached s m) → Chained s (m + 1)
  one_more m h r a l =
      let le : a ≤ m = omega arith in
      ⊎_elim (λ (e : a ≡ m). rw e r) (λ (q : a < m). h a q) (eq-or-lt_of_le le)

  -- the walk from position m on, with `left` positions left of k + 1; this computes
  unfoldable pub walk : (left m : ℕ) → m + left ≡ records s + 1 → Chained s m → Fate s
  walk zero m e h = again (reached_again (λ a l. h a (omega arith)))
  walk (suc left) m e h = ⊎_elim
      (⊎_elim
      (λ (z : reached s m ≡ 0). ends m (record { chained = h; zero_there = z }))
      (λ (l : records s < reached s m). leaves (record { where_it_does = m; above = l })))
      (λ (r : Record s (reached s m)). walk left (m + 1) (omega arith) (one_more m h r))
      (kind (reached s m))

  -- the whole walk
  unfoldable pub fate : Fate s
  fate = walk (records s + 1) 0 (omega arith) (λ a l. absurd (omega arith))

  -- a chain that ends is no longer than there are records
  pub chain_short : (m : ℕ) → Ends s m → m ≤ records s
  chain_short m e =
      ⊎_elim
      (λ (h : m ≤ records s). h)
      (λ (h : records s < m). absurd (ends_or_again m e (reached_again (λ a l. e.chained a (omega arith)))))
      (le_or_lt m (records s))

  -- ---- walking k steps

  -- where a record stands, records stand at all positions before
  pub record_before : (m a : ℕ) → a ≤ m → Record s (reached s m) → Record s (reached s a)
  record_before m a h r =
      ⊎_elim
      (λ (o : Over s (reached s a)). absurd (not_both (reached s a) o (rw (← rests a m h o) r)))
      (λ (q : Record s (reached s a)). q)
      (kind (reached s a))

  -- a record after k steps: one was reached again
  pub inside_again : Record s (reached s (records s)) → Again s
  inside_again r = reached_again (λ a l. record_before (records s) a (omega arith) r)

  -- where no record stands at some position, the index there is the one after k steps
  pub over_there : (m : ℕ) → Over s (reached s m) → reached s (records s) ≡ reached s m
  over_there m o =
      ⊎_elim
      (λ (p : Over s (reached s (records s))). one_rest (records s) m p o)
      (λ (r : Record s (reached s (records s))). absurd (never_over (inside_again r) m o))
      (kind (reached s (records s)))

  -- 0 after k steps: the chain ends
  zero_ends : Fate s → reached s (records s) ≡ 0 → (m : ℕ) × Ends s m
  zero_ends (leaves l) z = absurd (omega (arith, over_there l.where_it_does (inr l.above)))
  zero_ends (again a) z = absurd (never_over a (records s) (inl z))
  zero_ends (ends m e) z = (m, e)

  -- a record reached again: a record after k steps
  again_inside : Again s → Record s (reached s (records s))
  again_inside a =
      ⊎_elim
      (λ (o : Over s (reached s (records s))). absurd (never_over a (records s) o))
      (λ (r : Record s (reached s (records s))). r)
      (kind (reached s (records s)))

  -- what the index after k steps tells
  pub walk_tells : WalkTells s
  walk_tells = record {
    zero_ends = zero_ends fate;
    ends_zero = λ m e. over_there m (inl e.zero_there) ∙ e.zero_there;
    above_leaves = λ h. record { where_it_does = records s; above = h };
    leaves_above = λ l. omega (arith, over_there l.where_it_does (inr l.above));
    inside_repeats = inside_again;
    repeats_inside = again_inside;
  }
