-- Laws of the line's lengths and places. Assumes nothing.
use Prim.Native.Nat.{ℕ, suc, ◌+◌, ◌-◌, ◌*◌, ◌/◌, ◌%◌, ◌^◌, ◌≤◌, ◌<◌}
use mathlib.Core.Path.{◌≡◌, refl, sym, ◌∙◌}
use mathlib.Core.Bool.{Bool, true, false, ◌&&◌, true≢false}
use native.Mathlib.Omega.{arith}
use native.Mathlib.Nat.{add_assoc, zero-add, zero-mul, add-mul, suc-mul, mul_assoc, mul-le-mul, mul-le-mul_right, lt_of_le_of_lt}
use native.Mathlib.Numerals.{add-one}
use lib.Dec.{T, leb, ltb, lit<}
use borrow.Author.Tests.{leb-true, leb-false, le-leb, lt-leb}
use mir.Syntax.{w64}
use mir.Val.{Fits as FitsWord}
use lib.Arith.{digits_lt, digits_div, digits_mod}
use Rattle.line.specs.Line.{Fits, rounds, table_length, place, has_round, largest_table}
use Rattle.line.specs.Theorems.{PlaceSteps}

-- ---- products

-- a product fits 64 bits where the product of the factors' bounds does
pub product_fits : {a b p q : ℕ} → a ≤ p → b ≤ q → T (ltb (p * q) (2 ^ 64)) → FitsWord w64 (a * b)
product_fits h k t = record { fits = lt_of_le_of_lt (mul-le-mul h k) (lit< t) }

-- a row more, of n bytes
pub next_row : (i n : ℕ) → (i + 1) * n ≡ i * n + n
next_row i n = rw (add-one, suc-mul)

-- row i of m ends within them
pub row_within : (i n m : ℕ) → i < m → i * n + n ≤ m * n
row_within i n m h = rw suc-mul at (mul-le-mul_right n h)

-- the rows from i to before r end within m of them
pub rows_between : (i r n m : ℕ) → i < r → r ≤ m → i * n + (r - i) * n ≤ m * n
rows_between i r n m h k =
    let e : i + (r - i) ≡ r = omega arith in
    rw (← add-mul i (r - i) n, e) (mul-le-mul_right n k)

-- ---- the largest table

-- no accepted line has more rounds, or a longer table
pub rounds_bound : (n t T : ℕ) → n ≤ 32 → Fits n t T → rounds t ≤ 36
rounds_bound n t T h fits = omega (arith, fits.order, fits.room)

pub table_bound : (n t T : ℕ) → n ≤ 32 → Fits n t T → table_length n t ≤ largest_table
table_bound n t T h fits = mul-le-mul (mul-le-mul (rounds_bound n t T h fits) h) h

-- and one has it
pub table_reached : Fits 32 10 10 × (table_length 32 10 ≡ largest_table)
table_reached = (record { order = omega arith; room = omega arith }, refl)

-- ---- a byte's place, as document 01 has it, in step, and from the start of its round

pub place_is : (n r i j : ℕ) → place n r (i - 1) (j - 1) ≡ ((r - 1) * n + (i - 1)) * n + (j - 1)
unfolding place
place_is n r i j = refl

pub place_from_start : (n r i j : ℕ) → place n r i j ≡ (r - 1) * n * n + (i * n + j)
unfolding place
place_from_start n r i j = rw (add-mul, add_assoc)

-- of round m + 1, whose bytes start after those of m rounds
pub place_in_round : (n m i j : ℕ) → place n (suc m) i j ≡ m * (n * n) + i * n + j
place_in_round n m i j =
    let e : suc m - 1 ≡ m = omega arith in
    place_from_start n (suc m) i j ∙ rw (e, mul_assoc m n n) (omega arith)

-- .. and are within a run table
pub round_within : (n t m : ℕ) → m < rounds t → m * (n * n) + n * n ≤ table_length n t
round_within n t m h = rw mul_assoc (row_within m (n * n) (rounds t) h)

-- a round more, of n rows
next_block : (q n : ℕ) → (q + 1) * n * n ≡ q * n * n + n * n
next_block q n = rw (next_row q n, add-mul)

pub place_steps : (n r i j : ℕ) → PlaceSteps n r i j
place_steps n r i j = record {
  first = rw (place_from_start n 1 0 0) (simp (zero-mul, zero-add));
  next_receiver = omega (arith, place_from_start n r i (j + 1), place_from_start n r i j);
  next_sender = omega (arith, place_from_start n r (i + 1) j, place_from_start n r i j, next_row i n);
  next_round = λ h.
      let q : r - 1 + 1 ≡ r = omega arith in
      let p : r + 1 - 1 ≡ r = omega arith in
      omega (arith, rw p at (place_from_start n (r + 1) i j), place_from_start n r i j, rw q at (next_block (r - 1) n));
}

-- ---- a byte's place tells its round, sender and receiver

module _ (n r i j : ℕ) (hr : 1 ≤ r) (hi : i < n) (hj : j < n) where
  pub place_below : (m : ℕ) → r ≤ m → place n r i j < m * n * n
  unfolding place
  place_below m h = digits_lt (digits_lt (let g : r - 1 < m = omega arith in g) hi) hj

  pub place_round : place n r i j / n / n + 1 ≡ r
  unfolding place
  place_round = rw (digits_div ((r - 1) * n + i) hj, digits_div (r - 1) hi) (omega arith)

  pub place_from : place n r i j / n % n ≡ i
  unfolding place
  place_from = rw (digits_div ((r - 1) * n + i) hj, digits_mod (r - 1) hi)

  pub place_to : place n r i j % n ≡ j
  unfolding place
  place_to = digits_mod ((r - 1) * n + i) hj

-- ---- whether a round has its bytes

module _ (n start size : ℕ) where
  pub round_there : n ≤ 32 → start + n * n ≤ size → has_round n start size ≡ true
  unfolding has_round
  round_there h k = rw (le-leb n 32 h, le-leb (start + n * n) size k)

  pub round_large : 32 < n → has_round n start size ≡ false
  unfolding has_round
  round_large h = rw (lt-leb n 32 h)

  pub round_short : size < start + n * n → has_round n start size ≡ false
  unfolding has_round
  round_short h = go (leb n 32) (lt-leb (start + n * n) size h)
    where
      go : (b : Bool) → leb (start + n * n) size ≡ false → (b && leb (start + n * n) size) ≡ false
      go true e = e
      go false e = refl

  -- as code tells it
  pub round_left : n ≤ 32 → start ≤ size → leb (n * n) (size - start) ≡ has_round n start size
  round_left h k = go (leb (n * n) (size - start)) refl
    where
      go : (b : Bool) → leb (n * n) (size - start) ≡ b → b ≡ has_round n start size
      go true e = sym (round_there h (omega (arith, leb-true (n * n) (size - start) e)))
      go false e = sym (round_short (omega (arith, leb-false (n * n) (size - start) e)))

  pub round_means : has_round n start size ≡ true → (n ≤ 32) × (start + n * n ≤ size)
  unfolding has_round
  round_means = go (leb n 32) (leb (start + n * n) size) refl refl
    where
      go : (a b : Bool) → leb n 32 ≡ a → leb (start + n * n) size ≡ b → (a && b) ≡ true → (n ≤ 32) × (start + n * n ≤ size)
      go true true p q e = (leb-true n 32 p, leb-true (start + n * n) size q)
      go true false p q e = absurd (true≢false (sym e))
      go false b p q e = absurd (true≢false (sym e))
