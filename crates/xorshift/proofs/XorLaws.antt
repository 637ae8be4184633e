-- Laws of exclusive-or, and of it with a shifted number. Assumes nothing.
use Prim.Native.Nat.{ℕ, zero, suc, ◌+◌, ◌*◌, ◌/◌, ◌%◌, ◌^◌, ◌≤◌, ◌<◌}
use mathlib.Core.Path.{◌≡◌, refl, sym, ap, ap₂, ◌∙◌}
use native.Mathlib.Omega.{arith}
use native.Mathlib.Nat.{add-zero, add-mul, mul_assoc, mul_right_comm, mul-mod_left, mul-add-mod_self_right, div-add-mod', div-eq_of_lt, lt_of_lt_of_le, lt_of_le_of_lt, mod-lt}
use lib.Arith.{bin_ind, digits_div, digits_mod}
use lib.Pow.{pow_pos, pow_mono, pow-add, shr-shr, shr_le}
use lib.Bits.{bit_xor, differ, xor_step, xor_zero_r, xor_self, xor_block, xor_shr, xor_mod, xor_lt}
use Rattle.xorshift.specs.State.{states, shifted_left, shifted_right, xor_left, xor_right}

-- ---- exclusive-or

-- of two digits
differ_lt : (x y : ℕ) → x < 2 → y < 2 → differ x y < 2
differ_lt zero y h l = l
differ_lt (suc zero) zero h l = h
differ_lt (suc zero) (suc zero) h l = omega arith
differ_lt (suc zero) (suc (suc y)) h l = absurd (omega arith)
differ_lt (suc (suc x)) y h l = absurd (omega arith)

differ_assoc : (x y z : ℕ) → x < 2 → y < 2 → z < 2 → differ (differ x y) z ≡ differ x (differ y z)
differ_assoc zero y z h l m = refl
differ_assoc (suc zero) zero z h l m = refl
differ_assoc (suc zero) (suc zero) zero h l m = refl
differ_assoc (suc zero) (suc zero) (suc zero) h l m = refl
differ_assoc (suc zero) (suc zero) (suc (suc z)) h l m = absurd (omega arith)
differ_assoc (suc zero) (suc (suc y)) z h l m = absurd (omega arith)
differ_assoc (suc (suc x)) y z h l m = absurd (omega arith)

digit_small : (x y : ℕ) → differ (x % 2) (y % 2) < 2
digit_small x y = differ_lt (x % 2) (y % 2) (omega arith) (omega arith)

xor_half : (x y : ℕ) → bit_xor x y / 2 ≡ bit_xor (x / 2) (y / 2)
xor_half x y = ap (λ (k : ℕ). k / 2) (xor_step x y) ∙ digits_div (bit_xor (x / 2) (y / 2)) (digit_small x y)

xor_odd : (x y : ℕ) → bit_xor x y % 2 ≡ differ (x % 2) (y % 2)
xor_odd x y = ap (λ (k : ℕ). k % 2) (xor_step x y) ∙ digits_mod (bit_xor (x / 2) (y / 2)) (digit_small x y)

xor_assoc : (x y z : ℕ) → bit_xor (bit_xor x y) z ≡ bit_xor x (bit_xor y z)
xor_assoc x =
    bin_ind (λ (n : ℕ). (y z : ℕ) → bit_xor (bit_xor n y) z ≡ bit_xor n (bit_xor y z)) (λ y z. refl)
    (λ n ih y z.
    xor_step (bit_xor n y) z
    ∙ ap₂ (λ (h d : ℕ). bit_xor h (z / 2) * 2 + differ d (z % 2)) (xor_half n y) (xor_odd n y)
    ∙ ap₂ (λ (h d : ℕ). h * 2 + d) (ih (y / 2) (z / 2)) (differ_assoc (n % 2) (y % 2) (z % 2) (omega arith) (omega arith) (omega arith))
    ∙ sym (xor_step n (bit_xor y z) ∙ ap₂ (λ (h d : ℕ). bit_xor (n / 2) h * 2 + differ (n % 2) d) (xor_half y z) (xor_odd y z)))
    x

-- what stands twice is gone
xor_twice : (x y z : ℕ) → bit_xor (bit_xor x y) (bit_xor y z) ≡ bit_xor x z
xor_twice x y z =
    xor_assoc x y (bit_xor y z) ∙ ap (bit_xor x) (sym (xor_assoc y y z) ∙ ap (λ (k : ℕ). bit_xor k z) (xor_self y))

-- ---- shifts

mod_times : (a c m : ℕ) → a % m * c % m ≡ a * c % m
mod_times a c m =
    let e : a * c ≡ a / m * c * m + a % m * c =
    ap (λ (k : ℕ). k * c) (sym (div-add-mod' a m)) ∙ add-mul (a / m * m) (a % m) c ∙ ap (λ (k : ℕ). k + a % m * c) (mul_right_comm (a / m) m c) in
    sym (ap (λ (k : ℕ). k % m) e ∙ mul-add-mod_self_right (a / m * c) m (a % m * c))

left_left : (j k x : ℕ) → shifted_left j (shifted_left k x) ≡ shifted_left (k + j) x
unfolding shifted_left
left_left j k x = mod_times (x * 2 ^ k) (2 ^ j) states ∙ ap (λ (m : ℕ). m % states) (mul_assoc x (2 ^ k) (2 ^ j) ∙ ap (λ (m : ℕ). x * m) (sym (pow-add 2 k j)))

right_right : (j k x : ℕ) → shifted_right j (shifted_right k x) ≡ shifted_right (k + j) x
unfolding shifted_right
right_right j k x = shr-shr x k j

-- exclusive-or shifted is that of the shifted
left_xor : (k x y : ℕ) → shifted_left k (bit_xor x y) ≡ bit_xor (shifted_left k x) (shifted_left k y)
unfolding shifted_left
left_xor k x y =
    let e : bit_xor x y * 2 ^ k ≡ bit_xor (x * 2 ^ k) (y * 2 ^ k) =
    sym (ap₂ bit_xor (sym (add-zero (x * 2 ^ k))) (sym (add-zero (y * 2 ^ k))) ∙ xor_block k x y 0 0 (pow_pos k) (pow_pos k) ∙ add-zero (bit_xor x y * 2 ^ k)) in
    ap (λ (m : ℕ). m % states) e ∙ xor_mod (x * 2 ^ k) (y * 2 ^ k) 32

right_xor : (k x y : ℕ) → shifted_right k (bit_xor x y) ≡ bit_xor (shifted_right k x) (shifted_right k y)
unfolding shifted_right
right_xor k x y = xor_shr x y k

-- 32 bits and more are gone
left_gone : (k x : ℕ) → shifted_left (k + 32) x ≡ 0
unfolding shifted_left
left_gone k x = ap (λ (m : ℕ). m % states) (ap (λ (m : ℕ). x * m) (pow-add 2 k 32) ∙ sym (mul_assoc x (2 ^ k) states)) ∙ mul-mod_left (x * 2 ^ k) states

right_gone : (k x : ℕ) → x < states → shifted_right (32 + k) x ≡ 0
unfolding shifted_right
right_gone k x h = let far : 32 ≤ 32 + k = omega arith in div-eq_of_lt (lt_of_lt_of_le h (pow_mono far))

-- ---- exclusive-or with the own number shifted

-- twice is once by twice as much
pub left_twice : (k x : ℕ) → xor_left k (xor_left k x) ≡ xor_left (k + k) x
unfolding xor_left
left_twice k x =
    ap (bit_xor (bit_xor x (shifted_left k x))) (left_xor k x (shifted_left k x))
    ∙ xor_twice x (shifted_left k x) (shifted_left k (shifted_left k x))
    ∙ ap (bit_xor x) (left_left k k x)

pub right_twice : (k x : ℕ) → xor_right k (xor_right k x) ≡ xor_right (k + k) x
unfolding xor_right
right_twice k x =
    ap (bit_xor (bit_xor x (shifted_right k x))) (right_xor k x (shifted_right k x))
    ∙ xor_twice x (shifted_right k x) (shifted_right k (shifted_right k x))
    ∙ ap (bit_xor x) (right_right k k x)

-- by 32 and more it changes nothing
pub left_far : (k x : ℕ) → xor_left (k + 32) x ≡ x
unfolding xor_left
left_far k x = ap (bit_xor x) (left_gone k x) ∙ xor_zero_r x

pub right_far : (k x : ℕ) → x < states → xor_right (32 + k) x ≡ x
unfolding xor_right
right_far k x h = ap (bit_xor x) (right_gone k x h) ∙ xor_zero_r x

-- 32 bits stay 32
pub left_stays : (k x : ℕ) → x < states → xor_left k x < states
unfolding xor_left shifted_left
left_stays k x h = xor_lt 32 x (x * 2 ^ k % states) h (mod-lt (x * 2 ^ k) (pow_pos 32))

pub right_stays : (k x : ℕ) → x < states → xor_right k x < states
unfolding xor_right shifted_right
right_stays k x h = xor_lt 32 x (x / 2 ^ k) h (lt_of_le_of_lt (shr_le x k) h)
