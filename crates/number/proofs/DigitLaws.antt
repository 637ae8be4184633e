-- Laws of numbers built from bits, of the smallest grade, of any flag and of the largest count. Assumes nothing.
use Prim.Native.Nat.{ℕ, zero, suc, ◌+◌, ◌/◌, ◌%◌, ◌^◌, ◌≤◌, ◌<◌}
use mathlib.Core.Path.{◌≡◌, refl, sym, ap, ◌∙◌}
use mathlib.Core.Bool.{Bool, true, false}
use mathlib.Core.Logic.{◌⊎◌, inl, inr, ◌≢◌, ⊎_elim}
use native.Mathlib.Omega.{arith}
use native.Mathlib.Nat.{mod-eq_of_lt, two-pow-succ, eq-or-lt_of_le, le_of_suc-le-suc}
use lib.Dec.{eqb, ltb}
use lib.Arith.{digits_lt, digits_div, digits_mod}
use lib.Pow.{mod-pow-add}
use borrow.Author.Tests.{eqb-true, eqb-false, ltb-true, ltb-false, eq-eqb, ne_eqb}
use Rattle.std.specs.Prelude.{if◌then◌else◌}
use Rattle.broadcast.specs.Exchange.{flag_of}
use Rattle.line.specs.Width.{bit_of}
use Rattle.line.proofs.WidthLaws.{bit_small}
use Rattle.number.specs.Digits.{number_of, smaller, smallest, either, any, larger, largest}
use Rattle.number.specs.Theorems.{SameNumber, HasDigits}

-- each of the bits 0 to w - 1 is 0 or 1
abbrev pub Bits : ℕ → (ℕ → ℕ) → Type 0
Bits w d = (b : ℕ) → b < w → d b ≤ 1

-- ---- numbers

pub number_same : (w : ℕ) (d e : ℕ → ℕ) → ((b : ℕ) → b < w → d b ≡ e b) → number_of w d ≡ number_of w e
unfolding number_of
number_same zero d e h = refl
number_same (suc w) d e h = rw (h w (omega arith), number_same w d e (λ b l. h b (omega arith)))

pub number_below : (w : ℕ) (d : ℕ → ℕ) → Bits w d → number_of w d < 2 ^ w
unfolding number_of
number_below zero d h = omega arith
number_below (suc w) d h =
    let top : d w < 2 = omega (arith, h w (omega arith)) in
    omega (arith, two-pow-succ w, digits_lt top (number_below w d (λ b l. h b (omega arith))))

rebuilt_mod : (w m : ℕ) → number_of w (bit_of m) ≡ m % 2 ^ w
unfolding number_of bit_of
rebuilt_mod zero m = omega arith
rebuilt_mod (suc w) m =
    let e : suc w ≡ 1 + w = omega arith in
    rw (rebuilt_mod w m, e) (sym (mod-pow-add m 1 w))

pub rebuilt : (w m : ℕ) → m < 2 ^ w → number_of w (bit_of m) ≡ m
rebuilt w m h = rebuilt_mod w m ∙ mod-eq_of_lt h

-- the same number has the same bits
pub bits_same : (w : ℕ) (d e : ℕ → ℕ) → Bits w d → Bits w e → number_of w d ≡ number_of w e → (b : ℕ) → b < w → d b ≡ e b
unfolding number_of
bits_same zero d e hd he q b l = absurd (omega arith)
bits_same (suc w) d e hd he q b l =
    let low_d = number_below w d (λ c k. hd c (omega arith)) in
    let low_e = number_below w e (λ c k. he c (omega arith)) in
    let top = sym (digits_div (d w) low_d) ∙ ap (λ (m : ℕ). m / 2 ^ w) q ∙ digits_div (e w) low_e in
    let rest = sym (digits_mod (d w) low_d) ∙ ap (λ (m : ℕ). m % 2 ^ w) q ∙ digits_mod (e w) low_e in
    ⊎_elim (λ (r : b ≡ w). rw r top)
    (λ (k : b < w). bits_same w d e (λ c u. hd c (omega arith)) (λ c u. he c (omega arith)) rest b k)
    (eq-or-lt_of_le (le_of_suc-le-suc l))

pub same_number : (w : ℕ) (d e : ℕ → ℕ) → Bits w d → Bits w e → SameNumber w d e
same_number w d e hd he = record { from_bits = number_same w d e; to_bits = bits_same w d e hd he }

pub digits : (w : ℕ) → HasDigits w
digits w = record {
  rebuilt = rebuilt w;
  below = number_below w;
  bit = λ d h. bits_same w _ d (λ b _. bit_small (number_of w d) b) h (rebuilt w (number_of w d) (number_below w d h));
}

-- ---- all bits, or one of them

-- two families of bits agree everywhere, or there is a bit in which they don't
pub agree_or_not : (w : ℕ) (d e : ℕ → ℕ) → ((b : ℕ) → b < w → d b ≡ e b) ⊎ ((b : ℕ) × (b < w) × (d b ≢ e b))
agree_or_not zero d e = inl (λ b l. absurd (omega arith))
agree_or_not (suc w) d e = go (eqb (d w) (e w)) refl (agree_or_not w d e)
  where
    go : (c : Bool) → eqb (d w) (e w) ≡ c → ((b : ℕ) → b < w → d b ≡ e b) ⊎ ((b : ℕ) × (b < w) × (d b ≢ e b))
        → ((b : ℕ) → b < suc w → d b ≡ e b) ⊎ ((b : ℕ) × (b < suc w) × (d b ≢ e b))
    go false q ih = inr (w, omega arith, eqb-false (d w) (e w) q)
    go true q (inr (b, l, n)) = inr (b, omega arith, n)
    go true q (inl same) =
        inl
        (λ b l. ⊎_elim (λ (r : b ≡ w). rw r (eqb-true (d w) (e w) q)) (λ (k : b < w). same b k) (eq-or-lt_of_le (le_of_suc-le-suc l)))

-- ---- any flag

either_is : (a b : ℕ) → a ≡ 1 → either a b ≡ 1
unfolding either
either_is a b e = rw (eq-eqb a 1 e)

either_else : (a b : ℕ) → a ≢ 1 → either a b ≡ b
unfolding either
either_else a b n = rw (ne_eqb a 1 n)

pub any_none : (w : ℕ) (f : ℕ → ℕ) → ((b : ℕ) → b < w → f b ≡ 0) → any w f ≡ 0
unfolding any
any_none zero f h = refl
any_none (suc w) f h = either_else (f w) (any w f) (λ e. omega (arith, h w (omega arith), e)) ∙ any_none w f (λ b l. h b (omega arith))

pub any_one : (w : ℕ) (f : ℕ → ℕ) (b : ℕ) → b < w → f b ≡ 1 → any w f ≡ 1
unfolding any
any_one zero f b l e = absurd (omega arith)
any_one (suc w) f b l e = go (eqb (f w) 1) refl (any_one w f b)
  where
    go : (c : Bool) → eqb (f w) 1 ≡ c → (b < w → f b ≡ 1 → any w f ≡ 1) → either (f w) (any w f) ≡ 1
    go true q ih = either_is (f w) (any w f) (eqb-true (f w) 1 q)
    go false q ih =
        either_else (f w) (any w f) (eqb-false (f w) 1 q)
        ∙ ⊎_elim (λ (r : b ≡ w). absurd (eqb-false (f w) 1 q (rw r at e))) (λ (k : b < w). ih k e) (eq-or-lt_of_le (le_of_suc-le-suc l))

pub any_because : (w : ℕ) (f : ℕ → ℕ) → any w f ≡ 1 → (b : ℕ) × (b < w) × (f b ≡ 1)
unfolding any
any_because zero f e = absurd (omega arith)
any_because (suc w) f e = go (eqb (f w) 1) refl e (any_because w f)
  where
    go : (c : Bool) → eqb (f w) 1 ≡ c → either (f w) (any w f) ≡ 1
        → (any w f ≡ 1 → (b : ℕ) × (b < w) × (f b ≡ 1)) → (b : ℕ) × (b < suc w) × (f b ≡ 1)
    go true q r ih = (w, omega arith, eqb-true (f w) 1 q)
    go false q r ih = let (b, l, h) = ih (sym (either_else (f w) (any w f) (eqb-false (f w) 1 q)) ∙ r) in (b, omega arith, h)

pub any_small : (w : ℕ) (f : ℕ → ℕ) → any w f ≤ 1
unfolding any
any_small zero f = omega arith
any_small (suc w) f = go (eqb (f w) 1) refl (any_small w f)
  where
    go : (c : Bool) → eqb (f w) 1 ≡ c → any w f ≤ 1 → either (f w) (any w f) ≤ 1
    go true q ih = omega (arith, either_is (f w) (any w f) (eqb-true (f w) 1 q))
    go false q ih = omega (arith, either_else (f w) (any w f) (eqb-false (f w) 1 q))

-- ---- the smallest grade

smaller_left : (a b : ℕ) → smaller a b ≤ a
unfolding smaller
smaller_left a b = go (ltb a b) refl
  where
    go : (c : Bool) → ltb a b ≡ c → (if c then a else b) ≤ a
    go true q = omega arith
    go false q = ltb-false a b q

smaller_right : (a b : ℕ) → smaller a b ≤ b
unfolding smaller
smaller_right a b = go (ltb a b) refl
  where
    go : (c : Bool) → ltb a b ≡ c → (if c then a else b) ≤ b
    go true q = omega (arith, ltb-true a b q)
    go false q = omega arith

pub smallest_low : (w : ℕ) (g : ℕ → ℕ) → smallest w g ≤ 2
unfolding smallest
smallest_low zero g = omega arith
smallest_low (suc w) g = omega (arith, smaller_right (g w) (smallest w g), smallest_low w g)

pub smallest_least : (w : ℕ) (g : ℕ → ℕ) (b : ℕ) → b < w → smallest w g ≤ g b
unfolding smallest
smallest_least zero g b l = absurd (omega arith)
smallest_least (suc w) g b l =
    ⊎_elim
    (λ (r : b ≡ w). rw r (smaller_left (g w) (smallest w g)))
    (λ (k : b < w). omega (arith, smaller_right (g w) (smallest w g), smallest_least w g b k))
    (eq-or-lt_of_le (le_of_suc-le-suc l))

-- the flag is raised exactly if the smallest grade is below 2
pub any_is : (w : ℕ) (g f : ℕ → ℕ) → ((b : ℕ) → b < w → g b ≤ 2) → ((b : ℕ) → b < w → f b ≡ flag_of (g b)) → any w f ≡ flag_of (smallest w g)
unfolding any smallest flag_of either smaller
any_is zero g f low h = refl
any_is (suc w) g f low h =
    rw (h w (omega arith))
    (go (g w) (smallest w g) (low w (omega arith)) (smallest_low w g) (any_is w g f (λ b l. low b (omega arith)) (λ b l. h b (omega arith))))
  where
    go : (a m : ℕ) → a ≤ 2 → m ≤ 2 → any w f ≡ (if ltb m 2 then 1 else 0)
        → (if eqb (if ltb a 2 then 1 else 0) 1 then 1 else any w f) ≡ (if ltb (if ltb a m then a else m) 2 then 1 else 0)
    go zero zero la lm e = refl
    go zero (suc zero) la lm e = refl
    go zero (suc (suc zero)) la lm e = refl
    go zero (suc (suc (suc m))) la lm e = absurd (omega arith)
    go (suc zero) zero la lm e = refl
    go (suc zero) (suc zero) la lm e = refl
    go (suc zero) (suc (suc zero)) la lm e = refl
    go (suc zero) (suc (suc (suc m))) la lm e = absurd (omega arith)
    go (suc (suc zero)) zero la lm e = e
    go (suc (suc zero)) (suc zero) la lm e = e
    go (suc (suc zero)) (suc (suc zero)) la lm e = e
    go (suc (suc zero)) (suc (suc (suc m))) la lm e = absurd (omega arith)
    go (suc (suc (suc a))) m la lm e = absurd (omega arith)

-- ---- the largest count

larger_left : (a b : ℕ) → a ≤ larger a b
unfolding larger
larger_left a b = go (ltb b a) refl
  where
    go : (c : Bool) → ltb b a ≡ c → a ≤ (if c then a else b)
    go true q = omega arith
    go false q = ltb-false b a q

larger_right : (a b : ℕ) → b ≤ larger a b
unfolding larger
larger_right a b = go (ltb b a) refl
  where
    go : (c : Bool) → ltb b a ≡ c → b ≤ (if c then a else b)
    go true q = omega (arith, ltb-true b a q)
    go false q = omega arith

larger_within : (a b m : ℕ) → a ≤ m → b ≤ m → larger a b ≤ m
unfolding larger
larger_within a b m ha hb = go (ltb b a)
  where
    go : (c : Bool) → (if c then a else b) ≤ m
    go true = ha
    go false = hb

pub largest_within : (w : ℕ) (c : ℕ → ℕ) (m : ℕ) → ((b : ℕ) → b < w → c b ≤ m) → largest w c ≤ m
unfolding largest
largest_within zero c m h = omega arith
largest_within (suc w) c m h = larger_within (c w) (largest w c) m (h w (omega arith)) (largest_within w c m (λ b l. h b (omega arith)))

pub largest_most : (w : ℕ) (c : ℕ → ℕ) (b : ℕ) → b < w → c b ≤ largest w c
unfolding largest
largest_most zero c b l = absurd (omega arith)
largest_most (suc w) c b l =
    ⊎_elim
    (λ (r : b ≡ w). rw r (larger_left (c w) (largest w c)))
    (λ (k : b < w). omega (arith, larger_right (c w) (largest w c), largest_most w c b k))
    (eq-or-lt_of_le (le_of_suc-le-suc l))

-- ---- one bit

pub number_one : (d : ℕ → ℕ) → number_of 1 d ≡ d 0
unfolding number_of
number_one d = omega arith

pub smallest_one : (g : ℕ → ℕ) → g 0 ≤ 2 → smallest 1 g ≡ g 0
unfolding smallest smaller
smallest_one g h = go (g 0) h
  where
    go : (a : ℕ) → a ≤ 2 → (if ltb a 2 then a else 2) ≡ a
    go zero l = refl
    go (suc zero) l = refl
    go (suc (suc zero)) l = refl
    go (suc (suc (suc a))) l = absurd (omega arith)

pub any_one_bit : (f : ℕ → ℕ) → f 0 ≤ 1 → any 1 f ≡ f 0
unfolding any either
any_one_bit f h = go (f 0) h
  where
    go : (a : ℕ) → a ≤ 1 → (if eqb a 1 then 1 else 0) ≡ a
    go zero l = refl
    go (suc zero) l = refl
    go (suc (suc a)) l = absurd (omega arith)

pub largest_one : (c : ℕ → ℕ) → largest 1 c ≡ c 0
unfolding largest larger
largest_one c = go (c 0) (ltb 0 (c 0)) refl
  where
    go : (a : ℕ) (t : Bool) → ltb 0 a ≡ t → (if t then a else 0) ≡ a
    go a true e = refl
    go a false e = omega (arith, ltb-false 0 a e)

-- ---- what agrees in each bit agrees together

pub smallest_same : (w : ℕ) (g h : ℕ → ℕ) → ((b : ℕ) → b < w → g b ≡ h b) → smallest w g ≡ smallest w h
unfolding smallest
smallest_same zero g h e = refl
smallest_same (suc w) g h e = rw (e w (omega arith), smallest_same w g h (λ b l. e b (omega arith)))

pub any_same : (w : ℕ) (f h : ℕ → ℕ) → ((b : ℕ) → b < w → f b ≡ h b) → any w f ≡ any w h
unfolding any
any_same zero f h e = refl
any_same (suc w) f h e = rw (e w (omega arith), any_same w f h (λ b l. e b (omega arith)))

pub largest_same : (w : ℕ) (c h : ℕ → ℕ) → ((b : ℕ) → b < w → c b ≡ h b) → largest w c ≡ largest w h
unfolding largest
largest_same zero c h e = refl
largest_same (suc w) c h e = rw (e w (omega arith), largest_same w c h (λ b l. e b (omega arith)))
