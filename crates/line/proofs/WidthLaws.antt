-- Laws of a number's bits and of the parts of a buffer. Assumes nothing.
use Prim.Native.Nat.{ℕ, zero, suc, ◌+◌, ◌*◌, ◌/◌, ◌%◌, ◌^◌, ◌≤◌, ◌<◌}
use mathlib.Core.Path.{◌≡◌, refl, sym, ap, ◌∙◌}
use mathlib.Core.Logic.{◌≢◌}
use mathlib.Core.List.{List}
use native.Mathlib.Omega.{arith}
use native.Mathlib.Nat.{mul-le-mul, mul-le-mul_right, mul-zero, suc-mul, add-mul, mul_assoc, min-eq_left, div-eq_of_lt, div-lt_iff_lt-mul, div-add-mod', mod-lt, lt_of_lt_of_le, pow-le-pow_right}
use borrow.Author.Tests.{ne_eqb}
use lib.ListN.{length, get_or, drop, length-take, length-drop}
use lib.Seq.{get_or-take, get_or-drop, ext_get_or}
use Rattle.line.specs.Line.{Fits, rounds, table_length, place}
use Rattle.line.specs.Width.{most_bits, bits, bit_of, tables_length, largest_tables, part_of}
use Rattle.line.proofs.LineLaws.{table_bound, place_in_round}

-- ---- the bits of w

-- w itself, but for 0
pub bits_else : (w : ℕ) → 1 ≤ w → bits w ≡ w
unfolding bits
bits_else w h = let ne : w ≢ 0 = λ e. omega arith in rw (ne_eqb w 0 ne)

pub bits_some : (w : ℕ) → 1 ≤ bits w
unfolding bits
bits_some zero = omega arith
bits_some (suc w) = rw (bits_else (suc w) (omega arith)) (omega arith)

pub bits_most : (w : ℕ) → w ≤ most_bits → bits w ≤ most_bits
unfolding bits
bits_most zero h = omega arith
bits_most (suc w) h = rw (bits_else (suc w) (omega arith)) h

pub bits_one : (w : ℕ) → w ≤ 1 → bits w ≡ 1
unfolding bits
bits_one zero h = refl
bits_one (suc zero) h = refl
bits_one (suc (suc w)) h = absurd (omega arith)

-- ---- bit b of a number

pub bit_small : (m b : ℕ) → bit_of m b ≤ 1
unfolding bit_of
bit_small m b = omega arith

-- a number of w bits has none from w on
pub bit_above : (m b w : ℕ) → w ≤ b → m < 2 ^ w → bit_of m b ≡ 0
unfolding bit_of
bit_above m b w l h = rw (div-eq_of_lt (lt_of_lt_of_le h (pow-le-pow_right (omega arith) l)))

-- ---- all tables

-- no accepted line and number have more
pub tables_bound : (n t T w : ℕ) → n ≤ 32 → Fits n t T → w ≤ most_bits → tables_length n t w ≤ largest_tables
tables_bound n t T w h fits l = mul-le-mul (bits_most w l) (table_bound n t T h fits)

-- the bits' tables one after another are one table of so many rounds more
pub bit_place : (n t b r i j : ℕ) → 1 ≤ r → b * table_length n t + place n r i j ≡ place n (b * rounds t + r) i j
bit_place n t b zero i j h = absurd (omega arith)
bit_place n t b (suc m) i j h =
    let e : b * rounds t + suc m ≡ suc (b * rounds t + m) = omega arith in
    rw (e, place_in_round n m i j, place_in_round n (b * rounds t + m) i j, add-mul (b * rounds t) m (n * n), mul_assoc (rounds t) n n, mul_assoc b (rounds t) (n * n))
    (omega arith)

-- ---- one part of a buffer

pub part_at : (size : ℕ) (bytes : List ℕ) (b k : ℕ) → k < size → get_or (part_of size bytes b) k 0 ≡ get_or bytes (b * size + k) 0
unfolding part_of
part_at size bytes b k h = get_or-take size (drop (b * size) bytes) k 0 h ∙ get_or-drop (b * size) bytes k 0

pub part_size : (size : ℕ) (bytes : List ℕ) (b m : ℕ) → b < m → length bytes ≡ m * size → length (part_of size bytes b) ≡ size
unfolding part_of
part_size size bytes b m h e =
    simp (length-take, length-drop, e)
    (min-eq_left (omega (arith, mul-le-mul_right size h, suc-mul b size)))

-- the only part is the whole
pub part_whole : (size : ℕ) (bytes : List ℕ) → length bytes ≡ size → part_of size bytes 0 ≡ bytes
part_whole size bytes e =
    let s = part_size size bytes 0 1 (omega arith) (omega (arith, e)) in
    ext_get_or 0 (part_of size bytes 0) bytes (s ∙ sym e) (λ k h. part_at size bytes 0 k (rw s at h) ∙ ap (λ (m : ℕ). get_or bytes m 0) (omega arith))

some_size : (w size k : ℕ) → k < w * size → 0 < size
some_size w zero k h = absurd (omega (arith, h, mul-zero w))
some_size w (suc size) k h = omega arith

-- buffers whose parts are the same are the same
pub parts_same : (size : ℕ) (l m : List ℕ) (w : ℕ) → length l ≡ w * size → length m ≡ w * size
    → ((b : ℕ) → b < w → part_of size l b ≡ part_of size m b) → l ≡ m
parts_same size l m w e q same = ext_get_or 0 l m (e ∙ sym q) each
  where
    each : (k : ℕ) → k < length l → get_or l k 0 ≡ get_or m k 0
    each k h =
        let u : k < w * size = rw e at h in
        let pos : 0 < size = some_size w size k u in
        let b : k / size < w = (div-lt_iff_lt-mul pos).1 u in
        let j : k % size < size = mod-lt k pos in
        let d : k / size * size + k % size ≡ k = div-add-mod' k size in
        rw d at (sym (part_at size l (k / size) (k % size) j) ∙ ap (λ (p : List ℕ). get_or p (k % size) 0) (same (k / size) b) ∙ part_at size m (k / size) (k % size) j)
