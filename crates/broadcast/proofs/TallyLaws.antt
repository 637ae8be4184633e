-- Laws of what one station does in an exchange and at the king's word. No other module of this crate opens these definitions, but for the laws
-- that two rows with the same bytes are taken alike (RowLaws). Assumes nothing.
use Rattle.std.specs.Prelude.{if◌then◌else◌}
use Prim.Native.Nat.{ℕ, zero, suc, ◌+◌, ◌-◌, ◌≤◌, ◌<◌}
use mathlib.Core.Path.{◌≡◌, refl, sym, ap, ◌∙◌}
use mathlib.Core.Bool.{Bool, true, false}
use mathlib.Core.Logic.{◌⊎◌, inl, inr}
use native.Mathlib.Omega.{arith}
use native.Mathlib.Nat.{eq-zero-or-pos}
use lib.Dec.{eqb, ltb}
use borrow.Author.Tests.{eqb-true, eqb-false, lt-ltb, le-ltb, le-leb, lt-leb, eq-eqb, ne_eqb}
use Rattle.line.specs.Count.{count}
use Rattle.line.specs.Ballot.{blank, first_value, second_value, read_king, king_value}
use Rattle.line.specs.declared.ballot.Ballot.{Ballot}
use Rattle.line.proofs.CountLaws.{if_true, if_false, le_or_lt, count_zero, count_next, count_le, count_same, count_none, cover, mono, disjoint}
use Rattle.line.proofs.BallotLaws.{first_value_bound, first_value_keeps, first_value_because, second_value_keeps, second_value_bound, second_value_because, king_value_keeps, king_value_unreadable, king_value_bit}
use Rattle.broadcast.specs.Exchange.{Row, tally, firsts, seconds, z_from, z_of, y_from, y_of, for_y, grade_of, flag_of}
use Rattle.broadcast.specs.Broadcast.{obey}
use Rattle.broadcast.specs.Theorems.{BalanceHasGrade0, OneByMajority}

-- ---- zeros, ones and blanks

-- a reading by which only v is read as v: what counts for v are the bytes that are v
tally_bytes : (read : ℕ → ℕ) (n v : ℕ) (row : Row) → read v ≡ v → ((b : ℕ) → read b ≡ v → b ≡ v)
    → tally read n v row ≡ count n (λ i. eqb (row i) v)
unfolding tally
tally_bytes read n v row keeps only = count_same n _ _ (λ k _. go (row k) (eqb (row k) v) refl)
  where
    go : (b : ℕ) (c : Bool) → eqb b v ≡ c → eqb (read b) v ≡ eqb b v
    go b true e = eq-eqb (read b) v (ap read (eqb-true b v e) ∙ keeps) ∙ sym e
    go b false e = ne_eqb (read b) v (λ q. eqb-false b v e (only b q)) ∙ sym e

pub first_bytes : (n v : ℕ) (row : Row) → v ≤ 1 → firsts n v row ≡ count n (λ i. eqb (row i) v)
unfolding firsts
first_bytes n v row h = tally_bytes first_value n v row (first_value_keeps v (omega arith)) (λ b. first_value_because b v h)

pub blanks_for_neither : (n v : ℕ) (row : Row) → v ≤ 1 → seconds n v row ≡ count n (λ i. eqb (row i) v)
unfolding seconds
blanks_for_neither n v row h = tally_bytes second_value n v row (second_value_keeps v (omega arith)) (λ b. second_value_because b v h)

-- in the first round none is read as anything but 0, 1 and blank
pub firsts_else : (n v : ℕ) (row : Row) → 2 < v → firsts n v row ≡ 0
unfolding firsts tally
firsts_else n v row h =
    count_same n _ (λ _. false) (λ k _. ne_eqb (first_value (row k)) v (λ e. omega (arith, first_value_bound (row k)))) ∙ count_none n

-- what is 0, 1 or 2 everywhere: the three counts make n
three : (f : ℕ → ℕ) → ((k : ℕ) → f k ≤ 2) → (n : ℕ)
    → count n (λ k. eqb (f k) 0) + count n (λ k. eqb (f k) 1) + count n (λ k. eqb (f k) 2) ≡ n
unfolding count
three f h zero = refl
three f h (suc n) = go (f n) (h n) (three f h n)
  where
    c : ℕ → ℕ
    c v = count n (λ k. eqb (f k) v)

    go : (x : ℕ) → x ≤ 2 → c 0 + c 1 + c 2 ≡ n
        → (if eqb x 0 then 1 else 0) + c 0 + ((if eqb x 1 then 1 else 0) + c 1) + ((if eqb x 2 then 1 else 0) + c 2) ≡ suc n
    go zero l ih = omega arith
    go (suc zero) l ih = omega arith
    go (suc (suc zero)) l ih = omega arith
    go (suc (suc (suc x))) l ih = absurd (omega arith)

pub firsts_make_n : (n : ℕ) (row : Row) → firsts n 0 row + firsts n 1 row + firsts n blank row ≡ n
unfolding firsts tally
firsts_make_n n row = three (λ k. first_value (row k)) (λ k. first_value_bound (row k)) n

pub seconds_make_n : (n : ℕ) (row : Row) → seconds n 0 row + seconds n 1 row + seconds n blank row ≡ n
unfolding seconds tally
seconds_make_n n row = three (λ k. second_value (row k)) (λ k. second_value_bound (row k)) n

-- ---- tallies

module _ (read : ℕ → ℕ) (n : ℕ) (row : Row) where
  -- who sends v, which is read as v, is counted
  tally_low : (v : ℕ) → read v ≡ v → (p : ℕ → Bool) → ((k : ℕ) → k < n → p k ≡ true → row k ≡ v) → count n p ≤ tally read n v row
  unfolding tally
  tally_low v e p h = mono n p _ (λ k l t. eq-eqb (read (row k)) v (ap read (h k l t) ∙ e))

  -- who is counted passes p or is bad
  tally_high : (v : ℕ) (bad p : ℕ → Bool) → ((k : ℕ) → k < n → bad k ≡ false → read (row k) ≡ v → p k ≡ true)
      → tally read n v row ≤ count n p + count n bad
  unfolding tally
  tally_high v bad p h = cover n _ p bad (λ k l b t. h k l b (eqb-true (read (row k)) v t))

  -- no ballot counts for both values
  tally_apart : (v w : ℕ) → v + w ≡ 1 → tally read n v row + tally read n w row ≤ n
  unfolding tally
  tally_apart v w s =
      disjoint n _ _ (λ k l a b. omega (arith, eqb-true (read (row k)) v a, eqb-true (read (row k)) w b))

module _ (n : ℕ) (row : Row) where
  pub firsts_low : (v : ℕ) → v ≤ 1 → (p : ℕ → Bool) → ((k : ℕ) → k < n → p k ≡ true → row k ≡ v) → count n p ≤ firsts n v row
  unfolding firsts
  firsts_low v h = tally_low first_value n row v (first_value_keeps v (omega arith))

  pub firsts_apart : (v w : ℕ) → v + w ≡ 1 → firsts n v row + firsts n w row ≤ n
  unfolding firsts
  firsts_apart = tally_apart first_value n row

  pub seconds_low : (v : ℕ) → v ≤ 1 → (p : ℕ → Bool) → ((k : ℕ) → k < n → p k ≡ true → row k ≡ v) → count n p ≤ seconds n v row
  unfolding seconds
  seconds_low v h = tally_low second_value n row v (second_value_keeps v (omega arith))

  pub seconds_apart : (v w : ℕ) → v + w ≡ 1 → seconds n v row + seconds n w row ≤ n
  unfolding seconds
  seconds_apart = tally_apart second_value n row

  -- where the good send 0, 1 or blank
  pub seconds_high : (v : ℕ) (bad p : ℕ → Bool) → ((k : ℕ) → k < n → bad k ≡ false → (row k ≤ 2) × (row k ≡ v → p k ≡ true))
      → seconds n v row ≤ count n p + count n bad
  unfolding seconds
  seconds_high v bad p h =
      tally_high second_value n row v bad p (λ k l b e. (h k l b).1 (sym (second_value_keeps (row k) (h k l b).0) ∙ e))

-- ---- one ballot more, as a loop counts

module _ (read : ℕ → ℕ) (v : ℕ) (row : Row) where
  tally_none : tally read 0 v row ≡ 0
  unfolding tally
  tally_none = count_zero _

  tally_next : (i : ℕ) → tally read (i + 1) v row ≡ (if eqb (read (row i)) v then 1 else 0) + tally read i v row
  unfolding tally
  tally_next i = count_next i _

  tally_le : (n : ℕ) → tally read n v row ≤ n
  unfolding tally
  tally_le n = count_le n _

module _ (v : ℕ) (row : Row) where
  pub firsts_none : firsts 0 v row ≡ 0
  unfolding firsts
  firsts_none = tally_none first_value v row

  pub firsts_next : (i : ℕ) → firsts (i + 1) v row ≡ (if eqb (first_value (row i)) v then 1 else 0) + firsts i v row
  unfolding firsts
  firsts_next = tally_next first_value v row

  pub firsts_le : (n : ℕ) → firsts n v row ≤ n
  unfolding firsts
  firsts_le = tally_le first_value v row

  pub seconds_none : seconds 0 v row ≡ 0
  unfolding seconds
  seconds_none = tally_none second_value v row

  pub seconds_next : (i : ℕ) → seconds (i + 1) v row ≡ (if eqb (second_value (row i)) v then 1 else 0) + seconds i v row
  unfolding seconds
  seconds_next = tally_next second_value v row

  pub seconds_le : (n : ℕ) → seconds n v row ≤ n
  unfolding seconds
  seconds_le = tally_le second_value v row

-- ---- each step in plain facts, as document 01 has it

-- step 2, of a count
pub z_from_means : (n T x c : ℕ) → (n - T ≤ c → z_from n T x c ≡ x) × (c < n - T → z_from n T x c ≡ blank)
unfolding z_from
z_from_means n T x c = (λ h. if_true x blank (le-leb (n - T) c h), λ h. if_false x blank (lt-leb (n - T) c h))

-- of a row
pub z_means : (n T x : ℕ) (row : Row)
    → (n - T ≤ firsts n x row → z_of n T x row ≡ x) × (firsts n x row < n - T → z_of n T x row ≡ blank)
unfolding z_of
z_means n T x row = z_from_means n T x (firsts n x row)

-- step 4, of two counts
pub y_from_means : (a b : ℕ) → (b ≤ a → y_from a b ≡ 0) × (a < b → y_from a b ≡ 1)
unfolding y_from
y_from_means a b = (λ h. if_true 0 1 (le-leb b a h), λ h. if_false 0 1 (lt-leb b a h))

pub y_from_bit : (a b : ℕ) → y_from a b ≤ 1
y_from_bit a b = go (le_or_lt b a)
  where
    go : (b ≤ a) ⊎ (a < b) → y_from a b ≤ 1
    go (inl h) = omega (arith, (y_from_means a b).0 h)
    go (inr h) = omega (arith, (y_from_means a b).1 h)

-- of a row
pub y_means : (n : ℕ) (row : Row)
    → (seconds n 1 row ≤ seconds n 0 row → y_of n row ≡ 0) × (seconds n 0 row < seconds n 1 row → y_of n row ≡ 1)
unfolding y_of
y_means n row = y_from_means (seconds n 0 row) (seconds n 1 row)

-- the count for y
pub for_y_is : (n : ℕ) (row : Row) → for_y (seconds n 0 row) (seconds n 1 row) ≡ seconds n (y_of n row) row
unfolding for_y y_of
for_y_is n row = go (y_from a b) (y_from_bit a b)
  where
    a : ℕ
    a = seconds n 0 row

    b : ℕ
    b = seconds n 1 row

    go : (y : ℕ) → y ≤ 1 → (if eqb y 0 then a else b) ≡ seconds n y row
    go zero h = refl
    go (suc zero) h = refl
    go (suc (suc y)) h = absurd (omega arith)

-- step 5
pub grade_means : (n t T c : ℕ)
    → (n - t ≤ c → grade_of n t T c ≡ 2)
    × (c < n - t → n - T ≤ c → grade_of n t T c ≡ 1)
    × (c < n - t → c < n - T → grade_of n t T c ≡ 0)
unfolding grade_of
grade_means n t T c =
    (λ h. rw (le-leb (n - t) c h), λ h k. rw (lt-leb (n - t) c h, le-leb (n - T) c k), λ h k. rw (lt-leb (n - t) c h, lt-leb (n - T) c k))

-- the flag
pub flag_means : (g : ℕ) → (g < 2 → flag_of g ≡ 1) × (2 ≤ g → flag_of g ≡ 0)
unfolding flag_of
flag_means g = (λ h. if_true 1 0 (lt-ltb g 2 h), λ h. if_false 1 0 (le-ltb g 2 h))

pub flag_bit : (g : ℕ) → flag_of g ≤ 1
unfolding flag_of
flag_bit g = go (ltb g 2)
  where
    go : (b : Bool) → (if b then 1 else 0) ≤ 1
    go true = omega arith
    go false = omega arith

-- the king's word
pub obey_means : (g y : ℕ) (b : Ballot) → (g ≡ 0 → obey g y b ≡ king_value y b) × (1 ≤ g → obey g y b ≡ y)
unfolding obey
obey_means g y b = (λ h. if_true _ _ (eq-eqb g 0 h), λ h. if_false _ _ (ne_eqb g 0 (omega arith)))

-- ---- what follows: z is x or blank, and x only with enough ballots for it

pub z_because : (n T x v : ℕ) (row : Row) → v ≤ 1 → z_of n T x row ≡ v → (x ≡ v) × (n - T ≤ firsts n v row)
z_because n T x v row h q = go (le_or_lt (n - T) (firsts n x row))
  where
    go : (n - T ≤ firsts n x row) ⊎ (firsts n x row < n - T) → (x ≡ v) × (n - T ≤ firsts n v row)
    go (inl k) = let e : x ≡ v = sym ((z_means n T x row).0 k) ∙ q in (e, rw e at k)
    go (inr k) = absurd (omega (arith, (z_means n T x row).1 k))

pub z_bound : (n T x : ℕ) (row : Row) → x ≤ 1 → z_of n T x row ≤ 2
z_bound n T x row h = go (le_or_lt (n - T) (firsts n x row))
  where
    go : (n - T ≤ firsts n x row) ⊎ (firsts n x row < n - T) → z_of n T x row ≤ 2
    go (inl k) = omega (arith, (z_means n T x row).0 k)
    go (inr k) = omega (arith, (z_means n T x row).1 k)

-- ---- y is 0 or 1, and the value with the larger count

pub y_bit : (n : ℕ) (row : Row) → y_of n row ≤ 1
unfolding y_of
y_bit n row = y_from_bit (seconds n 0 row) (seconds n 1 row)

pub y_majority : (n : ℕ) (row : Row) (v w : ℕ) → v + w ≡ 1 → seconds n w row < seconds n v row → y_of n row ≡ v
y_majority n row zero zero s h = absurd (omega arith)
y_majority n row zero (suc zero) s h = (y_means n row).0 (omega arith)
y_majority n row zero (suc (suc w)) s h = absurd (omega arith)
y_majority n row (suc zero) zero s h = (y_means n row).1 h
y_majority n row (suc zero) (suc w) s h = absurd (omega arith)
y_majority n row (suc (suc v)) w s h = absurd (omega arith)

-- ---- the grade is 0, 1 or 2, and tells how many counted for y

module _ (n t T c : ℕ) where
  three_grades : (P : Type 0) → (n - t ≤ c → P) → (c < n - t → n - T ≤ c → P) → (c < n - t → c < n - T → P) → P
  three_grades P two one none = go (le_or_lt (n - t) c) (le_or_lt (n - T) c)
    where
      go : (n - t ≤ c) ⊎ (c < n - t) → (n - T ≤ c) ⊎ (c < n - T) → P
      go (inl a) b = two a
      go (inr a) (inl b) = one a b
      go (inr a) (inr b) = none a b

  pub grade_bound : grade_of n t T c ≤ 2
  grade_bound =
      let m = grade_means n t T c in
      three_grades _ (λ a. omega (arith, m.0 a)) (λ a b. omega (arith, m.1 a b)) (λ a b. omega (arith, m.2 a b))

  pub grade_2 : n - t ≤ c → grade_of n t T c ≡ 2
  grade_2 = (grade_means n t T c).0

  pub grade_positive : n - T ≤ c → 1 ≤ grade_of n t T c
  grade_positive h =
      let m = grade_means n t T c in
      three_grades _ (λ a. omega (arith, m.0 a)) (λ a b. omega (arith, m.1 a b)) (λ a b. absurd (omega arith))

  pub grade_because : t ≤ T → (1 ≤ grade_of n t T c → n - T ≤ c) × (2 ≤ grade_of n t T c → n - t ≤ c)
  grade_because order =
      let m = grade_means n t T c in
      three_grades _
      (λ a. (λ _. omega arith, λ _. a))
      (λ a b. (λ _. b, λ g. absurd (omega (arith, m.1 a b))))
      (λ a b. (λ g. absurd (omega (arith, m.2 a b)), λ g. absurd (omega (arith, m.2 a b))))

-- ---- a balance

-- as many zeros as ones: neither has the n - T of grade 1, which are more than half
pub balance : BalanceHasGrade0
balance n t T fits row e =
    let y_0 : y_of n row ≡ 0 = (y_means n row).0 (omega arith) in
    let few = seconds_apart n row 0 1 refl in
    record {
      value = y_0;
      grade = rw y_0 ((grade_means n t T (seconds n 0 row)).2 (omega (arith, fits)) (omega (arith, fits)));
    }

pub one_by_majority : OneByMajority
one_by_majority n row e = go (le_or_lt (seconds n 1 row) (seconds n 0 row))
  where
    go : (seconds n 1 row ≤ seconds n 0 row) ⊎ (seconds n 0 row < seconds n 1 row) → seconds n 0 row < seconds n 1 row
    go (inl h) = absurd (omega (arith, (y_means n row).0 h))
    go (inr h) = h

-- ---- the king is obeyed at grade 0 only

pub obey_bit : (g y b : ℕ) → y ≤ 1 → obey g y (read_king b) ≤ 1
obey_bit g y b h = go (eq-zero-or-pos g)
  where
    go : (g ≡ 0) ⊎ (0 < g) → obey g y (read_king b) ≤ 1
    go (inl e) = rw ((obey_means g y (read_king b)).0 e) (king_value_bit y b h)
    go (inr e) = rw ((obey_means g y (read_king b)).1 e) h

pub obey_king : (y b : ℕ) → b ≤ 1 → obey 0 y (read_king b) ≡ b
obey_king y b h = (obey_means 0 y (read_king b)).0 refl ∙ king_value_keeps y b h

pub obey_unreadable : (y b : ℕ) → 1 < b → obey 0 y (read_king b) ≡ y
obey_unreadable y b h = (obey_means 0 y (read_king b)).0 refl ∙ king_value_unreadable y b h
