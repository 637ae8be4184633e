-- Laws of a set of places that has a bit for each: what putting one in changes. Assumes nothing.
use Prim.Native.Nat.{ℕ, zero, suc, ◌+◌, ◌-◌, ◌/◌, ◌%◌, ◌^◌, ◌≤◌, ◌<◌}
use mathlib.Core.Path.{◌≡◌, refl, ap, ◌∙◌}
use mathlib.Core.Bool.{true}
use mathlib.Core.Logic.{⊎_elim}
use mathlib.Core.List.{List}
use native.Mathlib.Nat.{div-eq_of_lt, pow-suc}
use native.Mathlib.Omega.{arith}
use lib.Bits.{bit_or, or_shr, or_mod, or_zero_l, or_zero_r}
use lib.ListN.{length, get_or}
use lib.Pow.{pow-lt, pow-add, shl-shr}
use lib.Seq.{get_or-set_same, get_or-set_other}
use borrow.Author.Tests.{eq-eqb}
use Rattle.line.specs.Marks.{marked}
use Rattle.line.proofs.CountLaws.{le_or_lt, same_or_not}
use Rattle.reader.specs.Loops.{is_seen, with_place}

-- ---- one number

-- bit b of 2 to the b is 1
power_same : (b : ℕ) → 2 ^ b / 2 ^ b ≡ 1
power_same b = ap (λ (x : ℕ). x / 2 ^ b) (omega arith) ∙ shl-shr 1 b

-- every other is 0
power_higher : (b d : ℕ) → 2 ^ (suc d + b) / 2 ^ b % 2 ≡ 0
power_higher b d = rw (pow-add 2 (suc d) b, shl-shr (2 ^ suc d) b, pow-suc 2 d) (omega arith)

power_other : (b c : ℕ) → (b ≡ c → ⊥) → 2 ^ b / 2 ^ c % 2 ≡ 0
power_other b c ne =
    ⊎_elim
    (λ (h : b ≤ c). let l : b < c = omega arith in rw (div-eq_of_lt (pow-lt l)))
    (λ (h : c < b).
    let e : b ≡ suc (b - c - 1) + c = omega arith in
    ap (λ (x : ℕ). 2 ^ x / 2 ^ c % 2) e ∙ power_higher c (b - c - 1))
    (le_or_lt b c)

one_joined : (x : ℕ) → x < 2 → bit_or x 1 ≡ 1
one_joined zero h = or_zero_l 1
one_joined (suc zero) h = refl
one_joined (suc (suc x)) h = absurd (omega arith)

-- with bit b put in, it is there
pub marked_same : (w b : ℕ) → marked (bit_or w (2 ^ b)) b ≡ true
unfolding marked
marked_same w b =
    eq-eqb (bit_or w (2 ^ b) / 2 ^ b % 2) 1 (rw (or_shr w (2 ^ b) b, power_same b) (or_mod (w / 2 ^ b) 1 1 ∙ one_joined (w / 2 ^ b % 2) (omega arith)))

-- and every other is as it was
pub marked_other : (w b c : ℕ) → (b ≡ c → ⊥) → marked (bit_or w (2 ^ b)) c ≡ marked w c
unfolding marked
marked_other w b c ne =
    let e : bit_or w (2 ^ b) / 2 ^ c % 2 ≡ w / 2 ^ c % 2 =
    rw (or_shr w (2 ^ b) c) (or_mod (w / 2 ^ c) (2 ^ b / 2 ^ c) 1 ∙ rw (power_other b c ne) (or_zero_r (w / 2 ^ c % 2))) in
    rw e

-- ---- the set

module _ (l : List ℕ) (p : ℕ) where
  -- with p put in, p is there
  pub seen_same : p / 32 < length l → is_seen (with_place l p) p ≡ true
  unfolding is_seen with_place
  seen_same h = rw get_or-set_same (marked_same (get_or l (p / 32) 0) (p % 32))

  -- and every other place is as it was
  pub seen_other : (q : ℕ) → q / 32 < length l → (p ≡ q → ⊥) → is_seen (with_place l p) q ≡ is_seen l q
  unfolding is_seen with_place
  seen_other q h ne =
      ⊎_elim
      (λ (e : q / 32 ≡ p / 32).
      let g : p / 32 < length l = omega arith in
      rw (e, get_or-set_same) (marked_other (get_or l (p / 32) 0) (p % 32) (q % 32) (λ f. ne (omega arith))))
      (λ (apart : q / 32 ≡ p / 32 → ⊥). rw get_or-set_other)
      (same_or_not (q / 32) (p / 32))
