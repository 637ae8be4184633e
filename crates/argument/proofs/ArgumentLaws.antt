-- Laws of a number's bytes: one digit more, and what the bytes are at the end. Assumes nothing.
use Prim.Native.Nat.{ℕ, ◌+◌, ◌-◌, ◌*◌, ◌≤◌, ◌<◌, min}
use mathlib.Core.Path.{◌≡◌, refl, sym, ◌∙◌}
use mathlib.Core.Bool.{Bool, true, false, ◌&&◌, true≢false}
use mathlib.Core.List.{List}
use native.Mathlib.Omega.{arith}
use native.Mathlib.Numerals.{add-one}
use lib.Dec.{leb}
use lib.ListN.{length, get_or}
use borrow.Author.Tests.{le-leb, lt-leb}
use Rattle.line.specs.Count.{all}
use Rattle.line.proofs.CountLaws.{both_hold, all_true}
use Rattle.std.specs.Prelude.{Some, None}
use Rattle.std.specs.Char.{is_ascii_digit}
use Rattle.argument.specs.Argument.{digit_byte, read, argument}

-- ---- one byte

pub digit_is : (b : ℕ) → is_ascii_digit b ≡ digit_byte b
unfolding digit_byte
digit_is b = refl

-- ---- one digit more, as far as 255

more : (a d : ℕ) → min (min (min a 255 * 10) 255 + d) 255 ≡ min (10 * a + d) 255
more a d = omega arith

module _ (bytes : List ℕ) where
  pub read_none : read bytes 0 ≡ 0
  unfolding read
  read_none = refl

  pub read_turn : (i x : ℕ) → x ≡ min (read bytes i) 255 → min (min (x * 10) 255 + (get_or bytes i 0 - 48)) 255 ≡ min (read bytes (i + 1)) 255
  unfolding read
  read_turn i x e = rw (e, add-one i) (more (read bytes i) (get_or bytes i 0 - 48))

  -- ---- all of them

  pub digits_none : all 0 (λ k. digit_byte (get_or bytes k 0)) ≡ true
  unfolding all
  digits_none = refl

  pub digits_turn : (i : ℕ) → all i (λ k. digit_byte (get_or bytes k 0)) ≡ true → digit_byte (get_or bytes i 0) ≡ true
      → all (i + 1) (λ k. digit_byte (get_or bytes k 0)) ≡ true
  unfolding all
  digits_turn i a b = rw (add-one i) (both_hold (digit_byte (get_or bytes i 0)) _ b a)

  -- ---- what they are

  pub other_byte : (i : ℕ) → i < length bytes → digit_byte (get_or bytes i 0) ≡ false → argument bytes ≡ None
  unfolding argument
  other_byte i h e = rw (none (all (length bytes) (λ k. digit_byte (get_or bytes k 0))) refl, last (leb 1 (length bytes)))
    where
      none : (b : Bool) → all (length bytes) (λ k. digit_byte (get_or bytes k 0)) ≡ b → b ≡ false
      none false q = refl
      none true q = absurd (true≢false (sym (all_true (length bytes) _ q i h) ∙ e))

      last : (b : Bool) → (b && false) ≡ false
      last true = refl
      last false = refl

  pub no_byte : length bytes ≡ 0 → argument bytes ≡ None
  unfolding argument
  no_byte e = rw (lt-leb 1 (length bytes) (omega arith))

  pub a_number : 1 ≤ length bytes → all (length bytes) (λ k. digit_byte (get_or bytes k 0)) ≡ true
      → argument bytes ≡ Some (min (read bytes (length bytes)) 255)
  unfolding argument
  a_number h e = rw (le-leb 1 (length bytes) h, e)
