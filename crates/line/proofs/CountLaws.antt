-- Laws of a choice, of an order's two cases, and of counting. Assumes nothing.
use Rattle.std.specs.Prelude.{if◌then◌else◌}
use Prim.Native.Nat.{ℕ, zero, suc, ◌+◌, ◌≤◌, ◌<◌}
use mathlib.Core.Path.{◌≡◌, refl, sym, ◌∙◌}
use mathlib.Core.Bool.{Bool, true, false, not, ◌&&◌, true≢false}
use mathlib.Core.Logic.{◌≢◌, ◌⊎◌, inl, inr, ⊎_elim}
use native.Mathlib.Omega.{arith}
use native.Mathlib.Numerals.{add-one}
use native.Mathlib.Nat.{le_refl, eq-or-lt_of_le, le_of_suc-le-suc}
use native.Mathlib.Decide.{le_ind}
use lib.Dec.{leb, eqb}
use borrow.Author.Tests.{leb-true, leb-false, eqb-true, eqb-false, eq-eqb, ne_eqb}
use Rattle.line.specs.Count.{count, all}

pub if_true : {A : Type 0} {b : Bool} (u v : A) → b ≡ true → if b then u else v ≡ u
if_true u v e = rw e

pub if_false : {A : Type 0} {b : Bool} (u v : A) → b ≡ false → if b then u else v ≡ v
if_false u v e = rw e

pub le_or_lt : (a b : ℕ) → (a ≤ b) ⊎ (b < a)
le_or_lt a b = go (leb a b) refl
  where
    go : (c : Bool) → leb a b ≡ c → (a ≤ b) ⊎ (b < a)
    go true e = inl (leb-true a b e)
    go false e = inr (leb-false a b e)

pub same_or_not : (a b : ℕ) → (a ≡ b) ⊎ (a ≡ b → ⊥)
same_or_not a b = go (eqb a b) refl
  where
    go : (c : Bool) → eqb a b ≡ c → (a ≡ b) ⊎ (a ≡ b → ⊥)
    go true e = inl (eqb-true a b e)
    go false e = inr (eqb-false a b e)

-- ---- one station more, as a loop counts

pub count_zero : (p : ℕ → Bool) → count 0 p ≡ 0
unfolding count
count_zero p = refl

pub count_next : (n : ℕ) (p : ℕ → Bool) → count (n + 1) p ≡ (if p n then 1 else 0) + count n p
unfolding count
count_next n p = rw (add-one n)

pub count_hit : (n : ℕ) (p : ℕ → Bool) → p n ≡ true → count (n + 1) p ≡ count n p + 1
unfolding count
count_hit n p e = rw (add-one n, e) (omega arith)

pub count_miss : (n : ℕ) (p : ℕ → Bool) → p n ≡ false → count (n + 1) p ≡ count n p
unfolding count
count_miss n p e = rw (add-one n, e) (omega arith)

pub count_le : (n : ℕ) (p : ℕ → Bool) → count n p ≤ n
unfolding count
count_le zero p = omega arith
count_le (suc n) p = go (p n) (count_le n p)
  where
    go : (b : Bool) → count n p ≤ n → (if b then 1 else 0) + count n p ≤ suc n
    go true h = omega arith
    go false h = omega arith

-- ---- two tests

-- tests that agree below n count alike
pub count_same : (n : ℕ) (p q : ℕ → Bool) → ((k : ℕ) → k < n → p k ≡ q k) → count n p ≡ count n q
unfolding count
count_same zero p q h = refl
count_same (suc n) p q h = rw (h n (omega arith), count_same n p q (λ k l. h k (omega arith)))

-- who passes p passes q or r
pub cover : (n : ℕ) (p q r : ℕ → Bool)
    → ((k : ℕ) → k < n → r k ≡ false → p k ≡ true → q k ≡ true) → count n p ≤ count n q + count n r
unfolding count
cover zero p q r h = omega arith
cover (suc n) p q r h = go (p n) (q n) (r n) (h n (omega arith)) (cover n p q r (λ k l. h k (omega arith)))
  where
    go : (a b c : Bool) → (c ≡ false → a ≡ true → b ≡ true) → count n p ≤ count n q + count n r
        → (if a then 1 else 0) + count n p ≤ (if b then 1 else 0) + count n q + ((if c then 1 else 0) + count n r)
    go false b c g ih = omega arith
    go true true c g ih = omega arith
    go true false true g ih = omega arith
    go true false false g ih = absurd (true≢false (sym (g refl refl)))

pub count_none : (n : ℕ) → count n (λ k. false) ≡ 0
unfolding count
count_none zero = refl
count_none (suc n) = omega (arith, count_none n)

-- nobody passes where the count is 0
pub none_passes : (n : ℕ) (p : ℕ → Bool) → count n p ≡ 0 → (k : ℕ) → k < n → p k ≡ false
unfolding count
none_passes zero p e k h = absurd (omega arith)
none_passes (suc n) p e k h = go (p n) refl e (none_passes n p)
  where
    go : (b : Bool) → p n ≡ b → (if b then 1 else 0) + count n p ≡ 0
        → (count n p ≡ 0 → (j : ℕ) → j < n → p j ≡ false) → p k ≡ false
    go true q c ih = absurd (omega arith)
    go false q c ih = ⊎_elim (λ (r : k ≡ n). rw r q) (λ (r : k < n). ih (omega arith) k r) (eq-or-lt_of_le (le_of_suc-le-suc h))

-- who passes p passes q
pub mono : (n : ℕ) (p q : ℕ → Bool) → ((k : ℕ) → k < n → p k ≡ true → q k ≡ true) → count n p ≤ count n q
mono n p q h = omega (arith, count_none n, cover n p q (λ k. false) (λ k l _. h k l))

-- nobody passes both
pub disjoint : (n : ℕ) (p q : ℕ → Bool) → ((k : ℕ) → k < n → p k ≡ true → q k ≡ true → ⊥) → count n p + count n q ≤ n
unfolding count
disjoint zero p q h = omega arith
disjoint (suc n) p q h = go (p n) (q n) (h n (omega arith)) (disjoint n p q (λ k l. h k (omega arith)))
  where
    go : (a b : Bool) → (a ≡ true → b ≡ true → ⊥) → count n p + count n q ≤ n
        → (if a then 1 else 0) + count n p + ((if b then 1 else 0) + count n q) ≤ suc n
    go false false g ih = omega arith
    go false true g ih = omega arith
    go true false g ih = omega arith
    go true true g ih = absurd (g refl refl)

-- everybody passes p or fails it
pub count_not : (n : ℕ) (p : ℕ → Bool) → count n (λ k. not (p k)) + count n p ≡ n
unfolding count
count_not zero p = refl
count_not (suc n) p = go (p n) (count_not n p)
  where
    go : (b : Bool) → count n (λ k. not (p k)) + count n p ≡ n
        → (if not b then 1 else 0) + count n (λ k. not (p k)) + ((if b then 1 else 0) + count n p) ≡ suc n
    go true ih = omega arith
    go false ih = omega arith

-- tests that agree beside x, which fails p
pub count_change : (n x : ℕ) (p q : ℕ → Bool) → x < n → p x ≡ false → ((k : ℕ) → k < n → k ≢ x → q k ≡ p k)
    → count n q ≡ (if q x then 1 else 0) + count n p
unfolding count
count_change zero x p q l e same = absurd (omega arith)
count_change (suc n) x p q l e same =
    ⊎_elim
    (λ (z : x ≡ n).
    let below : count n q ≡ count n p = count_same n q p (λ k u. same k (omega arith) (λ r. omega arith)) in
    let e' : p n ≡ false = rw z at e in
    rw (z, e', below) (omega arith))
    (λ (u : x < n).
    let ih = count_change n x p q u e (λ k v r. same k (omega arith) r) in
    let here : q n ≡ p n = same n (omega arith) (λ r. omega arith) in
    rw here (omega arith))
    (eq-or-lt_of_le (le_of_suc-le-suc l))

-- only station k can pass
pub count_one : (n k : ℕ) (q : ℕ → Bool) → k < n → count n (λ i. eqb i k && q i) ≡ (if q k then 1 else 0)
count_one n k q l =
    count_change n k (λ i. false) (λ i. eqb i k && q i) l refl (λ i u ne. rw (ne_eqb i k ne))
    ∙ rw (eq-eqb k k refl, count_none n) (omega arith)

-- ---- two numbers of stations

pub widen : (m n : ℕ) (p : ℕ → Bool) → m ≤ n → count m p ≤ count n p
unfolding count
widen m n p h = le_ind (λ (k : ℕ). count m p ≤ count k p) (le_refl (count m p)) (λ k l ih. omega arith) n h

-- from m on nobody passes
pub count_more : (m n : ℕ) (p : ℕ → Bool) → m ≤ n → ((k : ℕ) → m ≤ k → p k ≡ false) → count n p ≡ count m p
unfolding count
count_more m n p h none =
    le_ind (λ (k : ℕ). count k p ≡ count m p) refl (λ k l ih. rw (none k l) (omega arith)) n h

-- not all of the first m pass: one of them fails
pub witness : (m : ℕ) (p : ℕ → Bool) → count m p < m → (k : ℕ) × (k < m) × (p k ≡ false)
unfolding count
witness zero p h = absurd (omega arith)
witness (suc m) p h = go (p m) refl h (witness m p)
  where
    go : (b : Bool) → p m ≡ b → (if b then 1 else 0) + count m p < suc m
        → (count m p < m → (k : ℕ) × (k < m) × (p k ≡ false)) → (k : ℕ) × (k < suc m) × (p k ≡ false)
    go false e l ih = (m, omega arith, e)
    go true e l ih = let w = ih (omega arith) in (w.0, omega arith, w.2)

-- ---- all

pub both_true : (a b : Bool) → a && b ≡ true → (a ≡ true) × (b ≡ true)
both_true true b e = (refl, e)
both_true false b e = absurd (true≢false (sym e))

pub both_hold : (a b : Bool) → a ≡ true → b ≡ true → a && b ≡ true
both_hold a b e q = rw (e, q)

-- all pass where each does, and only then
pub all_true : (n : ℕ) (p : ℕ → Bool) → all n p ≡ true → (k : ℕ) → k < n → p k ≡ true
unfolding all
all_true zero p e k h = absurd (omega arith)
all_true (suc n) p e k h =
    let (a, b) = both_true (p n) (all n p) e in
    ⊎_elim (λ (r : k ≡ n). rw r a) (λ (r : k < n). all_true n p b k r) (eq-or-lt_of_le (le_of_suc-le-suc h))

pub all_hold : (n : ℕ) (p : ℕ → Bool) → ((k : ℕ) → k < n → p k ≡ true) → all n p ≡ true
unfolding all
all_hold zero p h = refl
all_hold (suc n) p h = both_hold (p n) (all n p) (h n (omega arith)) (all_hold n p (λ k l. h k (omega arith)))

-- tests that agree below n pass alike
pub all_same : (n : ℕ) (p q : ℕ → Bool) → ((k : ℕ) → k < n → p k ≡ q k) → all n p ≡ all n q
unfolding all
all_same zero p q h = refl
all_same (suc n) p q h = rw (h n (omega arith), all_same n p q (λ k l. h k (omega arith)))

one_more : (a b : ℕ) → eqb (1 + a) (suc b) ≡ eqb a b
one_more a b = go (eqb a b) refl
  where
    go : (c : Bool) → eqb a b ≡ c → eqb (1 + a) (suc b) ≡ c
    go true e = eq-eqb (1 + a) (suc b) (omega (arith, eqb-true a b e))
    go false e = ne_eqb (1 + a) (suc b) (λ q. eqb-false a b e (omega arith))

-- all pass where as many do as there are
pub all_count : (n : ℕ) (p : ℕ → Bool) → eqb (count n p) n ≡ all n p
unfolding all count
all_count zero p = refl
all_count (suc n) p = go (p n) (count_le n p) (all_count n p)
  where
    go : (b : Bool) → count n p ≤ n → eqb (count n p) n ≡ all n p → eqb ((if b then 1 else 0) + count n p) (suc n) ≡ b && all n p
    go true h ih = one_more (count n p) n ∙ ih
    go false h ih = ne_eqb (0 + count n p) (suc n) (λ e. omega arith)
