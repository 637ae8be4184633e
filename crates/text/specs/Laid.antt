-- A text in a lent buffer, from a place on.
use Rattle.std.specs.Prelude.{ℕ, suc, ◌+◌, ◌^◌, ◌<◌, min, ◌≡◌, List, [], ◌∷◌, length, set}

-- a buffer with these bytes stored from the place `at` on, as far as the buffer goes; every other byte is as it was
unfoldable pub laid : List ℕ → ℕ → List ℕ → List ℕ
laid buffer at [] = buffer
laid buffer at (b ∷ bytes) = laid (set buffer at b) (suc at) bytes

-- a place is a number of 64 bits, and this is the last: every buffer ends before it, and no place comes after it
abbrev pub last_place : ℕ
last_place = 18446744073709551615

-- the place after so many bytes
unfoldable pub after : ℕ → ℕ → ℕ
after at size = min (at + size) last_place

-- What a function that puts bytes promises: they are laid into the text from the place `at` on, and the answer is the place after them.
pub record Puts (text₀ text₁ : List ℕ) (at : ℕ) (bytes : List ℕ) (answer : ℕ) : Type 0 where
  pub text_is : text₁ ≡ laid text₀ at bytes
  pub answer_is : answer ≡ after at (length bytes)
  -- as every slice has
  pub size_fits : length text₀ < 2 ^ 64
