-- Laws of marks. Assumes nothing.
use Rattle.std.specs.Prelude.{if◌then◌else◌}
use Prim.Native.Nat.{ℕ, zero, suc, ◌+◌, ◌-◌, ◌*◌, ◌/◌, ◌%◌, ◌^◌, ◌≤◌, ◌<◌}
use mathlib.Core.Path.{◌≡◌, refl, sym, ap, subst, ◌∙◌}
use mathlib.Core.Bool.{Bool, true, false, not}
use mathlib.Core.Logic.{◌⊎◌, inl, inr, ⊎_elim, ◌↔◌}
use native.Mathlib.Omega.{arith}
use native.Mathlib.Nat.{div-eq_of_lt, le-div_iff_mul-le, lt_of_lt_of_le, lt_of_not-le, mod-eq_of_lt, two-pow-succ, eq-or-lt_of_le, le_of_suc-le-suc, le_refl, zero-mul, add-mul, mul-add, mul-le-mul}
use native.Mathlib.Numerals.{add-one}
use lib.Dec.{leb, eqb}
use lib.Pow.{pow_pos, pow_mono, shr-shr, mod-pow-add}
use lib.Arith.{bin_ind, digits_lt, digits_div, digits_mod}
use borrow.Author.Tests.{leb-true, leb-false, le-leb, lt-leb, eq-eqb}
use Rattle.line.specs.Count.{count}
use Rattle.line.specs.Line.{most_stations}
use Rattle.line.specs.Marks.{marked, all_marks, mark_beyond, faults, marks_of}
use Rattle.line.proofs.CountLaws.{count_not, count_more}

-- a bit above all that are 1 is no mark
pub marked_above : (marks i : ℕ) → marks < 2 ^ i → marked marks i ≡ false
unfolding marked
marked_above marks i h = rw (div-eq_of_lt h)

pub marked_above_width : (marks i w : ℕ) → w ≤ i → marks < 2 ^ w → marked marks i ≡ false
marked_above_width marks i w h l = marked_above marks i (lt_of_lt_of_le l (pow_mono h))

-- a number above 0 has a bit that is 1
some_bit : (m : ℕ) → 0 < m → (k : ℕ) × (m / 2 ^ k % 2 ≡ 1)
some_bit = bin_ind (λ (m : ℕ). 0 < m → (k : ℕ) × (m / 2 ^ k % 2 ≡ 1)) (λ h. absurd (omega arith)) step
  where
    lowest : (m : ℕ) → (m % 2 ≡ 0) ⊎ (m % 2 ≡ 1)
    lowest m = go (m % 2) refl
      where
        go : (r : ℕ) → m % 2 ≡ r → (m % 2 ≡ 0) ⊎ (m % 2 ≡ 1)
        go zero e = inl e
        go (suc zero) e = inr e
        go (suc (suc r)) e = absurd (omega arith)

    step : (m : ℕ) → (0 < m / 2 → (k : ℕ) × (m / 2 / 2 ^ k % 2 ≡ 1)) → 0 < m → (k : ℕ) × (m / 2 ^ k % 2 ≡ 1)
    step m ih h = go (lowest m)
      where
        go : (m % 2 ≡ 0) ⊎ (m % 2 ≡ 1) → (k : ℕ) × (m / 2 ^ k % 2 ≡ 1)
        go (inr e) = (0, omega arith)
        go (inl e) = let (k, b) = ih (omega arith) in (1 + k, rw (← shr-shr m 1 k) b)

-- no mark beyond station n: every station from n on is unmarked
pub beyond_none : (n marks i : ℕ) → mark_beyond n marks ≡ false → n ≤ i → marked marks i ≡ false
unfolding mark_beyond
beyond_none n marks i e h = marked_above marks i (lt_of_lt_of_le (leb-false (2 ^ n) marks e) (pow_mono h))

-- a mark beyond station n: some station from n on is marked
pub beyond_some : (n marks : ℕ) → mark_beyond n marks ≡ true → (i : ℕ) × (n ≤ i) × (marked marks i ≡ true)
unfolding mark_beyond marked
beyond_some n marks e =
    let h : 1 * 2 ^ n ≤ marks = omega (arith, leb-true (2 ^ n) marks e) in
    let (k, b) = some_bit (marks / 2 ^ n) ((le-div_iff_mul-le (pow_pos n)).1 h) in
    (n + k, omega arith, eq-eqb (marks / 2 ^ (n + k) % 2) 1 (rw (← shr-shr marks n k) b))

-- as code tells it: what is left of the marks after n bits is no 0
pub beyond_shift : (n marks : ℕ) → mark_beyond n marks ≡ leb 1 (marks / 2 ^ n)
unfolding mark_beyond
beyond_shift n marks = go (leb (2 ^ n) marks) refl
  where
    iff : (1 ≤ marks / 2 ^ n) ↔ (1 * 2 ^ n ≤ marks)
    iff = le-div_iff_mul-le (pow_pos n)

    go : (b : Bool) → leb (2 ^ n) marks ≡ b → b ≡ leb 1 (marks / 2 ^ n)
    go true e = sym (le-leb 1 (marks / 2 ^ n) (iff.1 (omega (arith, leb-true (2 ^ n) marks e))))
    go false e = sym (lt-leb 1 (marks / 2 ^ n) (lt_of_not-le (λ h. omega (arith, iff.0 h, leb-false (2 ^ n) marks e))))

-- a number of w bits has none from n on, where n is at least w
pub beyond_above : (n marks w : ℕ) → w ≤ n → marks < 2 ^ w → mark_beyond n marks ≡ false
unfolding mark_beyond
beyond_above n marks w h l = lt-leb (2 ^ n) marks (lt_of_lt_of_le l (pow_mono h))

-- ---- f

pub faults_and_good : (n : ℕ) (bad : ℕ → Bool) → faults n bad + count n (λ i. not (bad i)) ≡ n
faults_and_good n bad = omega (arith, count_not n bad)

pub faults_are_marks : (n marks : ℕ) → n ≤ most_stations → mark_beyond n marks ≡ false
    → faults n (marked marks) ≡ count most_stations (marked marks)
faults_are_marks n marks h e = sym (count_more n most_stations (marked marks) h (λ k l. beyond_none n marks k e l))

-- ---- a bit as a number

bit_low : (b : Bool) → (if b then 1 else 0) < 2
bit_low true = omega arith
bit_low false = omega arith

bit_same : (a b : Bool) → ◌≡◌ {A = ℕ} (if a then 1 else 0) (if b then 1 else 0) → a ≡ b
bit_same true true e = refl
bit_same false false e = refl
bit_same true false e = absurd (omega arith)
bit_same false true e = absurd (omega arith)

bit_back : (x : ℕ) → x < 2 → (if eqb x 1 then 1 else 0) ≡ x
bit_back zero h = refl
bit_back (suc zero) h = refl
bit_back (suc (suc x)) h = absurd (omega arith)

-- ---- the marks of a test

-- tests that agree below n have the same marks
pub marks_same : (n : ℕ) (p q : ℕ → Bool) → ((i : ℕ) → i < n → p i ≡ q i) → marks_of n p ≡ marks_of n q
unfolding marks_of
marks_same zero p q h = refl
marks_same (suc n) p q h = rw (h n (omega arith), marks_same n p q (λ i l. h i (omega arith)))

pub marks_below : (n : ℕ) (p : ℕ → Bool) → marks_of n p < 2 ^ n
unfolding marks_of
marks_below zero p = omega arith
marks_below (suc n) p = omega (arith, two-pow-succ n, digits_lt (bit_low (p n)) (marks_below n p))

rebuilt_mod : (n marks : ℕ) → marks_of n (marked marks) ≡ marks % 2 ^ n
unfolding marks_of marked
rebuilt_mod zero marks = omega arith
rebuilt_mod (suc n) marks =
    let e : suc n ≡ 1 + n = omega arith in
    rw (rebuilt_mod n marks, bit_back (marks / 2 ^ n % 2) (omega arith), e) (sym (mod-pow-add marks 1 n))

-- marks below 2^n are those of the stations that they mark
pub rebuilt : (n marks : ℕ) → marks < 2 ^ n → marks_of n (marked marks) ≡ marks
rebuilt n marks h = rebuilt_mod n marks ∙ mod-eq_of_lt h

-- the same marks come from tests that agree
pub tests_same : (n : ℕ) (p q : ℕ → Bool) → marks_of n p ≡ marks_of n q → (i : ℕ) → i < n → p i ≡ q i
unfolding marks_of
tests_same zero p q e i l = absurd (omega arith)
tests_same (suc n) p q e i l =
    let low_p = marks_below n p in
    let low_q = marks_below n q in
    let top = sym (digits_div (if p n then 1 else 0) low_p) ∙ ap (λ (m : ℕ). m / 2 ^ n) e ∙ digits_div (if q n then 1 else 0) low_q in
    let rest = sym (digits_mod (if p n then 1 else 0) low_p) ∙ ap (λ (m : ℕ). m % 2 ^ n) e ∙ digits_mod (if q n then 1 else 0) low_q in
    ⊎_elim (λ (r : i ≡ n). rw r (bit_same (p n) (q n) top)) (λ (k : i < n). tests_same n p q rest i k)
    (eq-or-lt_of_le (le_of_suc-le-suc l))

-- who is marked passes
pub marks_are : (n : ℕ) (p : ℕ → Bool) (i : ℕ) → i < n → marked (marks_of n p) i ≡ p i
marks_are n p = tests_same n (marked (marks_of n p)) p (rebuilt n (marks_of n p) (marks_below n p))

-- .. which is to say that no mark stands beyond station n
-- all 32 stations are marked by all marks
pub all_marked : (i : ℕ) → i < 32 → marked all_marks i ≡ true
unfolding marks_of
all_marked i h = marks_are 32 (λ k. true) i h

pub marks_back : (n marks : ℕ) → mark_beyond n marks ≡ false → marks_of n (marked marks) ≡ marks
unfolding mark_beyond
marks_back n marks e = rebuilt n marks (leb-false (2 ^ n) marks e)

-- ---- marks put together from the last station down: what is put together so far stands above the bits of the first i

module _ (n : ℕ) (p : ℕ → Bool) where
  pub together_none : marks_of n p ≡ 0 * 2 ^ n + marks_of n p
  together_none = omega (arith, zero-mul (2 ^ n))

  pub together_turn : (i marks : ℕ) → marks_of n p ≡ marks * 2 ^ (i + 1) + marks_of (i + 1) p
      → marks_of n p ≡ (2 * marks + (if p i then 1 else 0)) * 2 ^ i + marks_of i p
  unfolding marks_of
  together_turn i marks e =
      let double : 2 ^ suc i ≡ 2 ^ i + 2 ^ i = omega (arith, two-pow-succ i) in
      let up : marks * 2 ^ suc i ≡ marks * 2 ^ i + marks * 2 ^ i = rw double (mul-add marks (2 ^ i) (2 ^ i)) in
      let e' : marks_of n p ≡ marks * 2 ^ suc i + ((if p i then 1 else 0) * 2 ^ i + marks_of i p) = rw (add-one i) at e in
      let sum : 2 * marks + (if p i then 1 else 0) ≡ marks + (marks + (if p i then 1 else 0)) = omega arith in
      rw (sum, add-mul, add-mul) (omega (arith, e', up))

  -- as a loop does that counts down
  pub together_down : (i marks b : ℕ) → 0 < i → b ≡ (if p (i - 1) then 1 else 0) → marks_of n p ≡ marks * 2 ^ i + marks_of i p
      → marks_of n p ≡ (2 * marks + b) * 2 ^ (i - 1) + marks_of (i - 1) p
  together_down i marks b h q e =
      let back : i ≡ i - 1 + 1 = omega arith in
      rw q (together_turn (i - 1) marks (subst (λ (k : ℕ). marks_of n p ≡ marks * 2 ^ k + marks_of k p) back e))

  -- which never takes more than 32 bits, where n is at most 32
  pub together_below : (i marks : ℕ) → n ≤ 32 → marks_of n p ≡ marks * 2 ^ i + marks_of i p → marks < 2 ^ 32
  together_below i marks h e =
      let least : marks * 1 ≤ marks * 2 ^ i = mul-le-mul (le_refl marks) (pow_pos i) in
      let below : marks < 2 ^ n = omega (arith, marks_below n p) in
      lt_of_lt_of_le below (pow_mono h)

  -- and twice as much as there is below the last station fits too
  pub together_twice : (i marks : ℕ) → n ≤ 32 → 0 < i → marks_of n p ≡ marks * 2 ^ i + marks_of i p → 2 * marks < 2 ^ 32
  together_twice i marks h some e =
      omega (arith, together_below (i - 1) _ h (together_down i marks _ some refl e))

  -- at the end it is all
  pub together_end : (marks : ℕ) → marks_of n p ≡ marks * 2 ^ 0 + marks_of 0 p → marks ≡ marks_of n p
  unfolding marks_of
  together_end marks e = omega (arith, e)
