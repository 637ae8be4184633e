-- Laws of the state: it stays one of 32 bits, a step can be undone, so that zero comes of zero alone, and steps run on. Assumes nothing.
use Prim.Native.Nat.{ℕ, zero, suc, ◌+◌, ◌<◌}
use mathlib.Core.Path.{◌≡◌, refl, sym, ap, ◌∙◌}
use mathlib.Core.Logic.{◌≢◌}
use native.Mathlib.Nat.{add-zero, add-suc}
use Rattle.xorshift.specs.State.{states, shifted_left, shifted_right, xor_left, xor_right, next, state_after, before}
use Rattle.xorshift.specs.Theorems.{KnownStates}
use Rattle.xorshift.proofs.XorLaws.{left_twice, right_twice, left_far, right_far, left_stays, right_stays}

pub known : KnownStates
unfolding shifted_left shifted_right xor_left xor_right next state_after
known = record { large_1 = refl; large_2 = refl; large_3 = refl; one_1 = refl; one_2 = refl; one_3 = refl; one_4 = refl }

next_stays : (x : ℕ) → x < states → next x < states
unfolding next
next_stays x h = left_stays 5 _ (right_stays 17 _ (left_stays 13 x h))

pub stays : (m x : ℕ) → x < states → state_after m x < states
unfolding state_after
stays zero x h = h
stays (suc m) x h = next_stays (state_after m x) (stays m x h)

-- ---- a step undone, shift by shift, the last one first

left_5_undone : (x : ℕ) → xor_left 20 (xor_left 10 (xor_left 5 (xor_left 5 x))) ≡ x
left_5_undone x = rw (left_twice 5 x, left_twice 10 x, left_twice 20 x) (left_far 8 x)

right_17_undone : (x : ℕ) → x < states → xor_right 17 (xor_right 17 x) ≡ x
right_17_undone x h = rw (right_twice 17 x) (right_far 2 x h)

left_13_undone : (x : ℕ) → xor_left 26 (xor_left 13 (xor_left 13 x)) ≡ x
left_13_undone x = rw (left_twice 13 x, left_twice 26 x) (left_far 20 x)

pub undone : (x : ℕ) → x < states → before (next x) ≡ x
unfolding next before
undone x h =
    rw (left_5_undone (xor_right 17 (xor_left 13 x)), right_17_undone (xor_left 13 x) (left_stays 13 x h)) (left_13_undone x)

-- ---- never zero

zero_before : before 0 ≡ 0
unfolding before xor_left xor_right shifted_left shifted_right
zero_before = refl

next_some : (x : ℕ) → x < states → x ≢ 0 → next x ≢ 0
next_some x h some e = some (sym (undone x h) ∙ ap before e ∙ zero_before)

pub never_zero : (m seed : ℕ) → seed < states → seed ≢ 0 → state_after m seed ≢ 0
unfolding state_after
never_zero zero seed h some = some
never_zero (suc m) seed h some = next_some (state_after m seed) (stays m seed h) (never_zero m seed h some)

-- ---- steps run on

pub runs_on : (a b x : ℕ) → state_after (a + b) x ≡ state_after b (state_after a x)
unfolding state_after
runs_on a zero x = rw (add-zero a)
runs_on a (suc b) x = rw (add-suc a b, runs_on a b x)
