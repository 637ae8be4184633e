-- Laws of counts by columns. Assumes nothing.
use Rattle.std.specs.Prelude.{if◌then◌else◌}
use Prim.Native.Nat.{ℕ, ◌+◌, ◌-◌, ◌*◌, ◌≤◌, ◌<◌}
use mathlib.Core.Logic.{◌⊎◌, inl, inr}
use mathlib.Core.Path.{◌≡◌, refl, sym, ◌∙◌}
use mathlib.Core.Bool.{Bool, true, false, ◌&&◌}
use mathlib.Core.List.{List, ◌++◌}
use native.Mathlib.Omega.{arith}
use lib.Dec.{eqb, ltb}
use borrow.Author.Tests.{lt-ltb, le-ltb, le-leb, lt-leb}
use lib.ListN.{length, get_or, take, drop, replicate, get_or-append}
use lib.Seq.{get_or-take, get_or-drop, get_or-append_right}
use Rattle.std.proofs.lemmas.List.{get_or_past}
use Rattle.line.specs.Count.{count}
use Rattle.line.specs.Line.{has_round}
use Rattle.line.specs.Writing.{Each}
use Rattle.line.proofs.CountLaws.{if_true, count_zero, count_le, count_hit, count_miss, le_or_lt}
use Rattle.line.proofs.LineLaws.{round_means, row_within}
use Rattle.line.proofs.WritingLaws.{zeros}
use Rattle.column.specs.Column.{column, counted, count_of, sent_by, block_at, each_of, hit, more, AtMost}

-- ---- a row: the first 32 bytes, or those that there are and zeros

pub row_whole : (bytes row : List ℕ) → row ≡ take 32 bytes → Each 32 row (each_of bytes)
unfolding Each each_of
row_whole bytes row e j h = rw e (get_or-take 32 bytes j 0 h)

pub row_short : (bytes row : List ℕ) → row ≡ bytes → Each 32 (row ++ drop (length bytes) (replicate 32 0)) (each_of bytes)
unfolding Each each_of
row_short bytes row e j h = rw e (go (le_or_lt (length bytes) j))
  where
    go : (length bytes ≤ j) ⊎ (j < length bytes) → get_or (bytes ++ drop (length bytes) (replicate 32 0)) j 0 ≡ get_or bytes j 0
    go (inl l) =
        get_or-append_right bytes (drop (length bytes) (replicate 32 0)) j 0 l
        ∙ get_or-drop (length bytes) (replicate 32 0) (j - length bytes) 0
        ∙ zeros 32 (length bytes + (j - length bytes))
        ∙ sym (get_or_past bytes j 0 l)
    go (inr l) = get_or-append bytes (drop (length bytes) (replicate 32 0)) 0 j l

-- a sender's row starts within the bytes
pub row_starts : (n start size i : ℕ) → has_round n start size ≡ true → i < n → start + i * n ≤ size
row_starts n start size i h k = omega (arith, (round_means n start size h).1, row_within i n n k)

-- a row that starts at a place
row_at : (bytes row : List ℕ) (at : ℕ) → Each 32 row (each_of (drop at bytes)) → (j : ℕ) → j < 32 → get_or row j 0 ≡ get_or bytes (at + j) 0
unfolding Each each_of
row_at bytes row at each j h = each j h ∙ get_or-drop at bytes j 0

-- ---- counts

hit_le : (b v : ℕ) → hit b v ≤ 1
unfolding hit
hit_le b v = go (eqb b v)
  where
    go : (c : Bool) → (if c then 1 else 0) ≤ 1
    go true = omega arith
    go false = omega arith

module _ (bytes : List ℕ) (start n : ℕ) (wanted : ℕ → ℕ) where
  pub counted_none : Each 32 (replicate 32 0) (counted bytes start n wanted 0)
  unfolding Each counted
  counted_none j h = zeros 32 j ∙ sym (count_zero _)

  -- no count is above the number of rows
  pub counted_most : (b m : ℕ) (l : List ℕ) → m ≤ b → Each 32 l (counted bytes start n wanted m) → AtMost b 32 l
  unfolding Each counted
  counted_most b m l h each j k = omega (arith, each j k, count_le m (λ i. eqb (column bytes start n j i) (wanted j)))

  -- one sender more
  counted_more : (m j : ℕ) → counted bytes start n wanted m j + hit (get_or bytes (start + m * n + j) 0) (wanted j) ≡ counted bytes start n wanted (m + 1) j
  unfolding counted hit column
  counted_more m j = go (eqb (get_or bytes (start + m * n + j) 0) (wanted j)) refl
    where
      p : ℕ → Bool
      p i = eqb (get_or bytes (start + i * n + j) 0) (wanted j)

      go : (c : Bool) → eqb (get_or bytes (start + m * n + j) 0) (wanted j) ≡ c → count m p + (if c then 1 else 0) ≡ count (m + 1) p
      go true e = sym (count_hit m p e)
      go false e = omega (arith, count_miss m p e)

  pub counted_turn : (m : ℕ) (l l' row : List ℕ) → Each 32 l (counted bytes start n wanted m) → Each 32 row (each_of (drop (start + m * n) bytes))
      → Each 32 l' (more l (each_of row) wanted) → Each 32 l' (counted bytes start n wanted (m + 1))
  unfolding Each more each_of
  counted_turn m l l' row before is now j k =
      now j k ∙ rw (before j k, row_at bytes row (start + m * n) is j k) (counted_more m j)

-- ---- with and without room

pub count_there : (n : ℕ) (bytes : List ℕ) (start : ℕ) (wanted : ℕ → ℕ) → has_round n start (length bytes) ≡ true
    → (j : ℕ) → count_of n bytes start wanted j ≡ counted bytes start n wanted n j
unfolding count_of
count_there n bytes start wanted h j = if_true _ _ h

pub count_all : (n : ℕ) (bytes l : List ℕ) (start : ℕ) (wanted : ℕ → ℕ) → has_round n start (length bytes) ≡ true
    → Each 32 l (counted bytes start n wanted n) → Each n l (count_of n bytes start wanted)
unfolding Each
count_all n bytes l start wanted h each j k =
    each j (omega (arith, (round_means n start (length bytes) h).0)) ∙ sym (count_there n bytes start wanted h j)

pub count_not : (n : ℕ) (bytes : List ℕ) (start : ℕ) (wanted : ℕ → ℕ) → has_round n start (length bytes) ≡ false
    → Each n (replicate 32 0) (count_of n bytes start wanted)
unfolding count_of Each
count_not n bytes start wanted h j k = rw h (zeros 32 j)

module _ (n : ℕ) (bytes : List ℕ) (start i : ℕ) where
  pub sent_there : i < n → has_round n start (length bytes) ≡ true → (j : ℕ) → sent_by n bytes start i j ≡ column bytes start n j i
  unfolding sent_by
  sent_there h k j = rw (lt-ltb i n h, k)

  pub sent_row : (row : List ℕ) → i < n → has_round n start (length bytes) ≡ true → Each 32 row (each_of (drop (start + i * n) bytes))
      → Each n row (sent_by n bytes start i)
  unfolding Each column
  sent_row row h k each j l =
      row_at bytes row (start + i * n) each j (omega (arith, (round_means n start (length bytes) k).0)) ∙ sym (sent_there h k j)

  pub sent_no_round : has_round n start (length bytes) ≡ false → Each n (replicate 32 0) (sent_by n bytes start i)
  unfolding sent_by Each
  sent_no_round h j k = rw h (go (ltb i n))
    where
      go : (b : Bool) → get_or {A = ℕ} (replicate 32 0) j 0 ≡ (if b && false then column bytes start n j i else 0)
      go true = zeros 32 j
      go false = zeros 32 j

  pub sent_no_station : n ≤ i → Each n (replicate 32 0) (sent_by n bytes start i)
  unfolding sent_by Each
  sent_no_station h j k = rw (le-ltb i n h) (zeros 32 j)

-- ---- a block of 32

pub block_there : (bytes : List ℕ) (a j : ℕ) → a + 32 ≤ length bytes → block_at bytes a j ≡ get_or bytes (a + j) 0
unfolding block_at
block_there bytes a j h = rw (le-leb (a + 32) (length bytes) h)

pub block_whole : (bytes row : List ℕ) (a : ℕ) → a + 32 ≤ length bytes → Each 32 row (each_of (drop a bytes)) → Each 32 row (block_at bytes a)
unfolding Each
block_whole bytes row a h each j k = row_at bytes row a each j k ∙ sym (block_there bytes a j h)

pub block_short : (bytes : List ℕ) (a : ℕ) → length bytes < a + 32 → Each 32 (replicate 32 0) (block_at bytes a)
unfolding Each block_at
block_short bytes a h j k = zeros 32 j ∙ sym (rw (lt-leb (a + 32) (length bytes) h))
