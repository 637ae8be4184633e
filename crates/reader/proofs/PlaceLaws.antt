-- Laws of a record's place in the tables, where cause 11 lets the record through. Assumes nothing.
use Prim.Native.Nat.{ℕ, ◌+◌, ◌-◌, ◌*◌, ◌/◌, ◌%◌, ◌≤◌, ◌<◌}
use mathlib.Core.Path.{◌≡◌}
use mathlib.Core.Bool.{true, false}
use mathlib.Core.List.{List}
use native.Mathlib.Nat.{lt_of_lt_of_le}
use native.Mathlib.Omega.{arith}
use lib.Arith.{digits_lt, digits_div, digits_mod}
use Rattle.line.specs.Line.{rounds, place}
use Rattle.line.specs.Width.{bits, largest_tables}
use Rattle.line.proofs.LineLaws.{place_below, place_round, place_from, place_to}
use Rattle.line.proofs.WidthLaws.{tables_bound, bit_place}
use Rattle.layout.specs.Layout.{header, table_wanted, tables_wanted, round, from, to, bit, rest}
use Rattle.judgement.specs.Judgement.{misplaced, same_place}
use Rattle.reader.specs.Reading.{place_of}
use Rattle.judgement.proofs.RangeLaws.{InRange, in_range, numbers_same, same_numbers}
use Rattle.reader.specs.Loops.{SoundHeader}

-- a record's numbers, where cause 11 lets it through
abbrev pub InPlace : List ℕ → ℕ → Type 0
InPlace s i = InRange (header s).line.n (rounds (header s).line.t) (bits (header s).w) (round s i) (from s i) (to s i) (bit s i) (rest s i)

-- ---- a place of bit b's table

module _ (s : List ℕ) (b r i j : ℕ) (hr : 1 ≤ r) (hR : r ≤ rounds (header s).line.t) (hi : i < (header s).line.n) (hj : j < (header s).line.n) where
  -- where it is in all bits' tables
  abbrev pub place_at : ℕ
  place_at = b * table_wanted s + place (header s).line.n r i j

  pub bit_inside : b < bits (header s).w → place_at < tables_wanted s
  bit_inside h = digits_lt h (place_below (header s).line.n r i j hr hi hj (rounds (header s).line.t) hR)

  -- it tells its bit and round, which are one round of all, its sender and its receiver
  rounds_told : place_at / (header s).line.n / (header s).line.n ≡ b * rounds (header s).line.t + (r - 1)
  rounds_told =
      let q = b * rounds (header s).line.t in
      let p : place_at / (header s).line.n / (header s).line.n + 1 ≡ q + r =
      rw (bit_place (header s).line.n (header s).line.t b r i j hr) (place_round (header s).line.n (q + r) i j (omega arith) hi hj) in
      omega arith

  pub bit_told_at : place_at / (header s).line.n / (header s).line.n / rounds (header s).line.t ≡ b
  bit_told_at = rw rounds_told (digits_div b (omega arith))

  pub round_told_at : place_at / (header s).line.n / (header s).line.n % rounds (header s).line.t + 1 ≡ r
  round_told_at =
      let l : r - 1 < rounds (header s).line.t = omega arith in rw (rounds_told, digits_mod b l) (omega arith)

  pub from_told_at : place_at / (header s).line.n % (header s).line.n ≡ i
  from_told_at =
      rw (bit_place (header s).line.n (header s).line.t b r i j hr)
      (place_from (header s).line.n (b * rounds (header s).line.t + r) i j (omega arith) hi hj)

  pub to_told_at : place_at % (header s).line.n ≡ j
  to_told_at =
      rw (bit_place (header s).line.n (header s).line.t b r i j hr)
      (place_to (header s).line.n (b * rounds (header s).line.t + r) i j (omega arith) hi hj)

module _ (s : List ℕ) where
  -- ---- one record

  -- what cause 11 lets through is in its ranges
  pub in_place : (i : ℕ) → misplaced s i ≡ false → InPlace s i
  unfolding misplaced
  in_place i e = in_range _ _ _ _ _ _ _ _ e

  module _ (i : ℕ) (p : InPlace s i) where
    from_below : from s i - 1 < (header s).line.n
    from_below = omega arith

    to_below : to s i - 1 < (header s).line.n
    to_below = omega arith

    -- its place is in the tables
    pub place_inside : place_of s i < tables_wanted s
    unfolding place_of
    place_inside =
        bit_inside s (bit s i) (round s i) (from s i - 1) (to s i - 1) p.round_low p.round_high from_below to_below p.bit_below

    -- and so in the largest
    pub place_in_largest : SoundHeader (header s) → place_of s i < largest_tables
    place_in_largest sound =
        lt_of_lt_of_le place_inside (tables_bound (header s).line.n (header s).line.t (header s).line.upper (header s).w sound.most sound.fits sound.narrow)

    -- and tells its bit, round, from and to
    pub bit_told : place_of s i / (header s).line.n / (header s).line.n / rounds (header s).line.t ≡ bit s i
    unfolding place_of
    bit_told = bit_told_at s (bit s i) (round s i) (from s i - 1) (to s i - 1) p.round_low p.round_high from_below to_below

    pub round_told : place_of s i / (header s).line.n / (header s).line.n % rounds (header s).line.t + 1 ≡ round s i
    unfolding place_of
    round_told = round_told_at s (bit s i) (round s i) (from s i - 1) (to s i - 1) p.round_low p.round_high from_below to_below

    pub from_told : place_of s i / (header s).line.n % (header s).line.n ≡ from s i - 1
    unfolding place_of
    from_told = from_told_at s (bit s i) (round s i) (from s i - 1) (to s i - 1) p.round_low p.round_high from_below to_below

    pub to_told : place_of s i % (header s).line.n ≡ to s i - 1
    unfolding place_of
    to_told = to_told_at s (bit s i) (round s i) (from s i - 1) (to s i - 1) p.round_low p.round_high from_below to_below

  -- two records with one place have the same round, from, to and bit
  pub place_tells : (i j : ℕ) → InPlace s i → InPlace s j → place_of s i ≡ place_of s j → same_place s i j ≡ true
  place_tells i j p q e =
      let r : round s i ≡ round s j = cc (round_told i p, round_told j q) in
      let f : from s i - 1 ≡ from s j - 1 = cc (from_told i p, from_told j q) in
      let t : to s i - 1 ≡ to s j - 1 = cc (to_told i p, to_told j q) in
      let b : bit s i ≡ bit s j = cc (bit_told i p, bit_told j q) in
      numbers_same s i j r (omega arith) (omega arith) b

  -- and two with the same round, from, to and bit have one place
  pub same_tells : (i j : ℕ) → same_place s i j ≡ true → place_of s i ≡ place_of s j
  unfolding place_of
  same_tells i j e = let (r, f, t, b) = same_numbers s i j e in rw (r, f, t, b)
