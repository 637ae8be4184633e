-- Laws of counting what is to be written: byte by byte, row by row, round by round. Assumes nothing.
use Rattle.std.specs.Prelude.{if◌then◌else◌}
use Prim.Native.Nat.{ℕ, zero, suc, ◌+◌, ◌-◌, ◌*◌, ◌≤◌, ◌<◌}
use mathlib.Core.Path.{◌≡◌, refl, sym, ◌∙◌}
use mathlib.Core.Bool.{Bool, true, false, ◌&&◌}
use mathlib.Core.Logic.{◌≢◌}
use mathlib.Core.List.{List, ◌++◌}
use native.Mathlib.Nat.{add-zero, add-suc, add_assoc, add-mul, suc-mul, zero-mul, mul-zero, le_refl, mul-le-mul, mul-le-mul_right}
use native.Mathlib.Decide.{le_ind}
use native.Mathlib.Omega.{arith}
use lib.Dec.{leb, eqb}
use lib.ListN.{length, get_or, take, drop, length-append, get_or-append}
use lib.Pow.{pow_pos}
use borrow.Author.Tests.{le-leb, lt-leb, eq-eqb, ne_eqb}
use Rattle.line.specs.Count.{count}
use Rattle.line.specs.Marks.{marked}
use Rattle.line.specs.Line.{rounds, place}
use Rattle.line.specs.Width.{bits, tables_length}
use Rattle.line.proofs.CountLaws.{count_zero, count_same, count_none}
use Rattle.line.proofs.MarksLaws.{marked_above}
use Rattle.std.proofs.lemmas.List.{get_or-take, get_or-drop, get_or-append-add, length-take, length-drop}
use Rattle.std.proofs.Math.Nat.{mul-add-div, add-mod_left, min-eq_left}
use Rattle.line.proofs.LineLaws.{next_row, row_within, place_from_start, place_from}
use Rattle.header.specs.declared.Header.{Header}
use Rattle.selection.specs.Places.{from_at, to_write, how_many}
use Rattle.selection.specs.Counted.{counted}
use Rattle.selection.proofs.LeapLaws.{First}
use Rattle.selection.proofs.PlaceLaws.{tables_rounds}
use Rattle.selection.specs.Loops.{Row, Round, speaks, More}

-- ---- counting on from a place

pub count_on : (a m : ℕ) (q : ℕ → Bool) → count (a + m) q ≡ count a q + count m (λ j. q (a + j))
unfolding count
count_on a zero q = rw (add-zero a) (omega arith)
count_on a (suc m) q = rw (add-suc a m, count_on a m q) (omega arith)

-- ---- a row

module _ (n marks : ℕ) (table : List ℕ) (i at : ℕ) (row : Row n i at) where
  -- a marked sender's bytes are written where they are not silence
  row_marked : (own : List ℕ) → ((j : ℕ) → j < n → get_or own j 0 ≡ get_or table (at + j) 0) → marked marks i ≡ true
      → More (to_write n marks table) at (at + n) (count n (speaks own))
  unfolding to_write speaks
  row_marked own same e =
      rw (
        count_on at n (to_write n marks table),
        count_same n (λ j. to_write n marks table (at + j)) (speaks own) (λ j k. rw (row j k, e, same j k)),
      )

  -- another's are not
  row_unmarked : marked marks i ≡ false → More (to_write n marks table) at (at + n) 0
  unfolding to_write
  row_unmarked e =
      rw (count_on at n (to_write n marks table), count_same n (λ j. to_write n marks table (at + j)) (λ j. false) (λ j k. rw (row j k, e)), count_none)

-- ---- rows and rounds, one after the other

module _ (n marks : ℕ) (table : List ℕ) (at : ℕ) (round : Round n at) where
  -- rows of stations that are not marked have nothing to be written
  pub skip : (a r : ℕ) → a ≤ r → r ≤ n → ((j : ℕ) → a ≤ j → j < r → marked marks j ≡ false) → More (to_write n marks table) (at + a * n) (at + r * n) 0
  skip a r h most none =
      le_ind (λ (k : ℕ). k ≤ r → More (to_write n marks table) (at + a * n) (at + k * n) 0)
      (λ l. omega arith)
      (λ k l ih m.
      let e : at + suc k * n ≡ at + k * n + n = omega (arith, suc-mul k n) in
      let row = row_unmarked n marks table k (at + k * n) (round k (omega arith)) (none k l (omega arith)) in
      rw e (omega (arith, ih (omega arith), row)))
      r h (le_refl r)

  -- up to the first marked one
  pub leap_first : (r : ℕ) → First marks n 0 r → More (to_write n marks table) at (at + r * n) 0
  leap_first r f =
      let z : at + 0 * n ≡ at = omega (arith, zero-mul n) in
      rw z at (skip 0 r f.low f.high f.between)

  -- a marked station's row, and up to the next marked one
  pub leap_on : (i k c r : ℕ) (own : List ℕ) → ((j : ℕ) → j < n → get_or own j 0 ≡ get_or table (at + i * n + j) 0) → i < n → marked marks i ≡ true
      → More (to_write n marks table) at (at + i * n) k → c ≡ count n (speaks own)
      → First marks n (i + 1) r → More (to_write n marks table) at (at + r * n) (k + c)
  leap_on i k c r own same l m before e f =
      let here = row_marked n marks table i (at + i * n) (round i l) own same m in
      let z : at + (i + 1) * n ≡ at + i * n + n = omega (arith, next_row i n) in
      let further = rw z at (skip (i + 1) r f.low f.high f.between) in
      omega (arith, before, here, e, further)

-- the rounds' places
pub round_rows : (n r : ℕ) → Round n (r * n * n)
unfolding from_at
round_rows n r i h j l =
    let z : r + 1 - 1 ≡ r = omega arith in
    let p : place n (r + 1) i j ≡ r * n * n + i * n + j = place_from_start n (r + 1) i j ∙ rw z (sym (add_assoc (r * n * n) (i * n) j)) in
    rw p at (place_from n (r + 1) i j (omega arith) h l)

pub next_round : (n r : ℕ) → (r + 1) * n * n ≡ r * n * n + n * n
next_round n r = rw (next_row r n, add-mul)

pub no_rounds : (n : ℕ) → 0 * n * n ≡ 0
no_rounds n = rw (zero-mul n, zero-mul n)

-- a round ends within the table
pub round_within : (n r last : ℕ) → r < last → r * n * n + n * n ≤ last * n * n
round_within n r last h = rw (← next_round n r) (mul-le-mul_right n (mul-le-mul_right n (let g : r + 1 ≤ last = omega arith in g)))

-- ---- one round alone, and a table of rounds

module _ (n marks : ℕ) where
  module _ (round : List ℕ) where
    alone : Round n 0
    alone = rw no_rounds at (round_rows n 0)

    pub round_start : (r : ℕ) → First marks n 0 r → 0 ≡ count (r * n) (to_write n marks round)
    round_start r f =
        let z : 0 + r * n ≡ r * n = omega arith in
        omega (arith, rw z at (leap_first n marks round 0 alone r f), count_zero (to_write n marks round))

    -- the bytes of the station counted i from 0
    abbrev pub own : ℕ → List ℕ
    own i = take n (drop (i * n) round)

    pub own_length : (i : ℕ) → i < n → length round ≡ n * n → length (own i) ≡ n
    own_length i l e = simp (length-take, length-drop) (min-eq_left (omega (arith, row_within i n n l)))

    pub round_on : (i k c r : ℕ) → length round ≡ n * n → i < n → marked marks i ≡ true
        → k ≡ count (i * n) (to_write n marks round) → c ≡ count (length (own i)) (speaks (own i)) → First marks n (i + 1) r
        → k + c ≡ count (r * n) (to_write n marks round)
    round_on i k c r whole l m before e f =
        let y : 0 + i * n ≡ i * n = omega arith in
        let z : 0 + r * n ≡ r * n = omega arith in
        let none = count_zero (to_write n marks round) in
        let start : More (to_write n marks round) 0 (0 + i * n) k = rw y (omega arith) in
        let same = λ (j : ℕ) (h : j < n). get_or-take n (drop (i * n) round) j 0 h ∙ get_or-drop (i * n) round j 0 in
        let on = leap_on n marks round 0 alone i k c r (own i) (rw y same) l m start (rw (own_length i l whole) at e) f in
        omega (arith, rw z at on)

  -- a round's senders are the same wherever it stands
  from_later : (j : ℕ) → 0 < n → from_at n (n * n + j) ≡ from_at n j
  unfolding from_at
  from_later j some = rw (mul-add-div some n j, add-mod_left)

  -- a round more
  pub round_more : (round rest : List ℕ) → 0 < n → length round ≡ n * n
      → count (length (round ++ rest)) (to_write n marks (round ++ rest)) ≡ count (n * n) (to_write n marks round) + count (length rest) (to_write n marks rest)
  unfolding to_write
  round_more round rest some e =
      let both = round ++ rest in
      let l : length both ≡ n * n + length rest = omega (arith, length-append round rest) in
      let here = count_same (n * n) (to_write n marks both) (to_write n marks round) (λ j k. rw (get_or-append round rest 0 j (omega arith))) in
      let there =
      count_same (length rest) (λ j. to_write n marks both (n * n + j)) (to_write n marks rest)
      (λ j k. rw (from_later j some, ← e, get_or-append-add round rest j 0)) in
      rw (l, count_on (n * n) (length rest) (to_write n marks both), here, there)

  -- k bytes of the rounds before the rest are to be written, and the rest is whole rounds
  pub record Before (table rest : List ℕ) (k : ℕ) : Type 0 where
    pub all : k + count (length rest) (to_write n marks rest) ≡ count (length table) (to_write n marks table)
    pub left : ℕ
    pub whole : length rest ≡ left * (n * n)

  module _ (some : 1 ≤ n) (table rest : List ℕ) (k : ℕ) (g : Before table rest k) where
    pub before_next : (round after : List ℕ) (r : ℕ) → rest ≡ round ++ after → length round ≡ n * n → r ≡ count (n * n) (to_write n marks round)
        → Before table after (k + r)
    before_next round after r e l q =
        let long : length rest ≡ n * n + length after = rw e (omega (arith, length-append round after)) in
        let (m, w) = go g.left g.whole long in
        record { all = omega (arith, rw e at g.all, round_more round after some l); left = m; whole = w }
      where
        go : (m : ℕ) → length rest ≡ m * (n * n) → length rest ≡ n * n + length after → (p : ℕ) × (length after ≡ p * (n * n))
        go zero w h = absurd (omega (arith, zero-mul (n * n), mul-le-mul some some))
        go (suc p) w h = (p, omega (arith, suc-mul p (n * n)))

    pub before_end : length rest < n * n → k ≡ count (length table) (to_write n marks table)
    before_end short = go g.left g.whole
      where
        go : (m : ℕ) → length rest ≡ m * (n * n) → k ≡ count (length table) (to_write n marks table)
        go zero w =
            let none : length rest ≡ 0 = omega (arith, zero-mul (n * n)) in
            omega (arith, rw none at g.all, count_zero (to_write n marks rest))
        go (suc p) w = absurd (omega (arith, suc-mul p (n * n)))

-- ---- what the call answers

module _ (h : Header) (table : List ℕ) where
  -- nobody marked
  nobody : h.marks ≡ 0 → (p : ℕ) → to_write h.line.n h.marks table p ≡ false
  unfolding to_write
  nobody e p = rw (e, marked_above 0 (from_at h.line.n p) (pow_pos (from_at h.line.n p)))

  pub counted_nobody : h.marks ≡ 0 → 0 ≡ counted h table
  unfolding counted how_many
  counted_nobody e =
      let l = tables_length h.line.n h.line.t h.w in
      rw (count_same l (to_write h.line.n h.marks table) (λ p. false) (λ p q. nobody e p), count_none l)
      (go (leb h.line.n 32 && eqb (length table) l))
    where
      go : (b : Bool) → ◌≡◌ {A = ℕ} 0 (if b then 0 else 0)
      go true = refl
      go false = refl

  -- no station
  pub counted_empty : h.line.n ≡ 0 → 0 ≡ counted h table
  unfolding counted how_many
  counted_empty e =
      let z : tables_length h.line.n h.line.t h.w ≡ 0 = rw e (tables_rounds 0 h.line.t h.w ∙ mul-zero (bits h.w * rounds h.line.t * 0)) in
      rw (z, count_zero (to_write h.line.n h.marks table)) (go (leb h.line.n 32 && eqb (length table) 0))
    where
      go : (b : Bool) → ◌≡◌ {A = ℕ} 0 (if b then 0 else 0)
      go true = refl
      go false = refl

  pub counted_large : 32 < h.line.n → 0 ≡ counted h table
  unfolding counted
  counted_large l = rw (lt-leb h.line.n 32 l)

  module _ (few : h.line.n ≤ 32) where
    pub counted_none : length table ≢ tables_length h.line.n h.line.t h.w → 0 ≡ counted h table
    unfolding counted
    counted_none e = rw (le-leb h.line.n 32 few, ne_eqb (length table) (tables_length h.line.n h.line.t h.w) e)

    pub counted_all : length table ≡ tables_length h.line.n h.line.t h.w → counted h table ≡ how_many h table
    unfolding counted
    counted_all e = rw (le-leb h.line.n 32 few, eq-eqb (length table) (tables_length h.line.n h.line.t h.w) e)

    pub counted_is : (r : ℕ) → length table ≡ tables_length h.line.n h.line.t h.w → r ≡ count (tables_length h.line.n h.line.t h.w) (to_write h.line.n h.marks table)
        → r ≡ counted h table
    unfolding how_many
    counted_is r e q = q ∙ sym (counted_all e)
