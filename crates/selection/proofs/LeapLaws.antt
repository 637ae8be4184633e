-- Laws of leaping: the first marked station from each station on, found from the last station to the first. Assumes nothing.
use Prim.Native.Nat.{ℕ, zero, suc, ◌+◌, ◌-◌, ◌≤◌, ◌<◌}
use mathlib.Core.Path.{◌≡◌, refl, ◌∙◌}
use mathlib.Core.Bool.{Bool, true, false}
use mathlib.Core.Logic.{◌≢◌, ⊎_elim}
use mathlib.Core.List.{List}
use native.Mathlib.Nat.{eq-or-lt_of_le}
use native.Mathlib.Numerals.{add-one}
use native.Mathlib.Omega.{arith}
use lib.ListN.{length, get_or, set, replicate, get_or-replicate}
use lib.Seq.{get_or-set_same, get_or-set_other}
use borrow.Author.Tests.{le-leb, lt-leb}
use Rattle.std.specs.Prelude.{if◌then◌else◌}
use Rattle.line.specs.Marks.{marked}
use Rattle.selection.specs.Leaps.{next_marked, leap_to, Leaps}

-- ---- where a leap comes down

-- r is the first marked station of n from i on, n where none follows
pub record First (marks n i r : ℕ) : Type 0 where
  pub low : i ≤ r
  pub high : r ≤ n
  pub between : (j : ℕ) → i ≤ j → j < r → marked marks j ≡ false
  pub there : r < n → marked marks r ≡ true

-- one station earlier
first_before : (marks n i r : ℕ) → i < n → First marks n (suc i) r → First marks n i (if marked marks i then i else r)
first_before marks n i r l f = go (marked marks i) refl
  where
    go : (b : Bool) → marked marks i ≡ b → First marks n i (if b then i else r)
    go true e = record { low = omega arith; high = omega arith; between = λ j a h. absurd (omega arith); there = λ h. e }
    go false e = record {
      low = omega (arith, f.low);
      high = f.high;
      between = λ j a h. ⊎_elim (λ (q : i ≡ j). rw (← q) e) (λ (q : i < j). f.between j (omega arith) h) (eq-or-lt_of_le a);
      there = f.there;
    }

next_first : (marks n c i : ℕ) → i + c ≡ n → First marks n i (next_marked marks i c)
unfolding next_marked
next_first marks n zero i e =
    record { low = omega arith; high = omega arith; between = λ j l h. absurd (omega arith); there = λ h. absurd (omega arith) }
next_first marks n (suc c) i e = first_before marks n i (next_marked marks (suc i) c) (omega arith) (next_first marks n c (suc i) (omega arith))

-- ---- one place

next_none : (marks i : ℕ) → next_marked marks i 0 ≡ i
unfolding next_marked
next_none marks i = refl

module _ (marks n : ℕ) where
  pub leap_large : (i : ℕ) → 32 < n → leap_to marks n i ≡ n
  unfolding leap_to
  leap_large i h = rw (lt-leb n 32 h)

  module _ (few : n ≤ 32) where
    leap_inside : (i : ℕ) → i ≤ n → leap_to marks n i ≡ next_marked marks i (n - i)
    unfolding leap_to
    leap_inside i h = rw (le-leb n 32 few, le-leb i n h)

    leap_beyond : (i : ℕ) → n < i → leap_to marks n i ≡ n
    unfolding leap_to
    leap_beyond i h = rw (le-leb n 32 few, lt-leb i n h)

    leap_end : leap_to marks n n ≡ n
    leap_end = let z : n - n ≡ 0 = omega arith in leap_inside n (omega arith) ∙ rw z (next_none marks n)

    -- none follows the last
    leap_last : (i : ℕ) → n ≤ i → leap_to marks n i ≡ n
    leap_last i h = ⊎_elim (λ (e : n ≡ i). rw (← e) leap_end) (λ (l : n < i). leap_beyond i l) (eq-or-lt_of_le h)

    leap_before : (i : ℕ) → i < n → leap_to marks n i ≡ (if marked marks i then i else leap_to marks n (i + 1))
    unfolding next_marked
    leap_before i l =
        let z : n - i ≡ suc (n - (i + 1)) = omega arith in
        rw (leap_inside i (omega arith), leap_inside (i + 1) (omega arith), z, add-one)

    pub leap_is_first : (i : ℕ) → i ≤ n → First marks n i (leap_to marks n i)
    leap_is_first i h = rw (leap_inside i h) (next_first marks n (n - i) i (omega arith))

  -- what the array holds is the first one
  pub leaps_first : (to : List ℕ) → Leaps marks n to → n ≤ 32 → (i : ℕ) → i ≤ n → First marks n i (get_or to i 0)
  leaps_first to l few i h = rw (l.each i (omega arith)) (leap_is_first few i h)

  -- ---- all places, from the last station to the first

  -- those from i on are found
  abbrev pub From : ℕ → List ℕ → Type 0
  From i to = (j : ℕ) → i ≤ j → j < 33 → get_or to j 0 ≡ leap_to marks n j

  pub from_large : 32 < n → From 0 (replicate 33 n)
  from_large h j a b = rw (get_or-replicate 33 j n 0 b, leap_large j h)

  pub from_last : n ≤ 32 → From n (replicate 33 n)
  from_last few j a b = rw (get_or-replicate 33 j n 0 b, leap_last few j a)

  pub from_before : n ≤ 32 → (i v : ℕ) (to : List ℕ) → i < n → i < length to → From (i + 1) to → v ≡ (if marked marks i then i else get_or to (i + 1) 0)
      → From i (set to i v)
  from_before few i v to l room f e j a b =
      ⊎_elim
      (λ (q : i ≡ j). rw (← q, get_or-set_same, e, f (i + 1) (omega arith) (omega arith), leap_before few i l))
      (λ (q : i < j). let ne : j ≢ i = λ z. omega arith in rw get_or-set_other (f j (omega arith) b))
      (eq-or-lt_of_le a)
