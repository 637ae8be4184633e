-- The generator's state (document 02, request 7), a number below 2^32. Generators of this kind are known as xorshift.
use Rattle.std.specs.Prelude.{ℕ, zero, suc, ◌*◌, ◌/◌, ◌%◌, ◌^◌}
use Rattle.std.specs.Int.Bits.{bit_xor}

-- "a 32-bit state": how many states there are, 0 with them
abbrev pub states : ℕ
states = 2 ^ 32

-- shifted left by k, "bits beyond 32 dropped"
unfoldable pub shifted_left : ℕ → ℕ → ℕ
shifted_left k x = x * 2 ^ k % states

-- shifted right by k
unfoldable pub shifted_right : ℕ → ℕ → ℕ
shifted_right k x = x / 2 ^ k

-- "exclusive-or with itself shifted left" by k
unfoldable pub xor_left : ℕ → ℕ → ℕ
xor_left k x = bit_xor x (shifted_left k x)

-- "[..] right" by k
unfoldable pub xor_right : ℕ → ℕ → ℕ
xor_right k x = bit_xor x (shifted_right k x)

-- "at each step exclusive-or with itself shifted left 13, then right 17, then left 5"
unfoldable pub next : ℕ → ℕ
next x = xor_left 5 (xor_right 17 (xor_left 13 x))

-- the state after m steps
unfoldable pub state_after : ℕ → ℕ → ℕ
state_after zero x = x
state_after (suc m) x = next (state_after m x)

-- a step undone: what `next` was handed, from what it gave (`StepUndone`)
unfoldable pub before : ℕ → ℕ
before y = xor_left 26 (xor_left 13 (xor_right 17 (xor_left 20 (xor_left 10 (xor_left 5 y)))))
