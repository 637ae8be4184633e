-- Laws of bytes laid into a buffer: what stands where, and a text put piece by piece. Assumes nothing.
use Prim.Native.Nat.{ℕ, zero, suc, ◌+◌, ◌^◌, ◌≤◌, ◌<◌}
use mathlib.Core.Logic.{◌≢◌}
use mathlib.Core.Path.{◌≡◌, refl, sym, ◌∙◌}
use mathlib.Core.Bool.{Bool, true, false}
use mathlib.Core.List.{List, [], ◌∷◌, ◌++◌, append-nil}
use native.Mathlib.Nat.{zero-add, add-zero, min-eq_left, min-eq_right}
use native.Mathlib.Numerals.{add-one}
use native.Mathlib.Omega.{arith}
use lib.Dec.{ltb}
use lib.ListN.{length, get_or, take, drop, set, length-set, length-append}
use lib.Seq.{take-suc, take-append_seam, get_or-set_same, get_or-set_other, set_out, sets, sets-eq}
use borrow.Author.Tests.{ltb-true, ltb-false}
use Rattle.text.specs.Laid.{laid, last_place, after, Puts}
use Rattle.text.specs.Theorems.{Lies}

-- ---- laid bytes

pub laid_length : (bytes l : List ℕ) (at : ℕ) → length (laid l at bytes) ≡ length l
unfolding laid
laid_length [] l at = refl
laid_length (b ∷ bytes) l at = laid_length bytes (set l at b) (suc at) ∙ length-set l at b

-- first some, then more after them
pub laid_append : (xs ys l : List ℕ) (at : ℕ) → laid l at (xs ++ ys) ≡ laid (laid l at xs) (at + length xs) ys
unfolding laid
laid_append [] ys l at = rw add-zero
laid_append (x ∷ xs) ys l at =
    let e : suc at + length xs ≡ at + suc (length xs) = omega arith in rw e at (laid_append xs ys (set l at x) (suc at))

laid_before : (bytes l : List ℕ) (at k : ℕ) → k < at → get_or (laid l at bytes) k 0 ≡ get_or l k 0
unfolding laid
laid_before [] l at k h = refl
laid_before (b ∷ bytes) l at k h =
    let ne : k ≢ at = λ e. omega arith in laid_before bytes (set l at b) (suc at) k (omega arith) ∙ get_or-set_other l at k b 0 ne

laid_inside : (bytes l : List ℕ) (at k : ℕ) → k < length bytes → at + k < length l → get_or (laid l at bytes) (at + k) 0 ≡ get_or bytes k 0
unfolding laid
laid_inside [] l at k h r = absurd (omega arith)
laid_inside (b ∷ bytes) l at zero h r =
    let z : at + zero ≡ at = omega arith in
    rw z (laid_before bytes (set l at b) (suc at) at (omega arith) ∙ get_or-set_same l at b 0 (omega arith))
laid_inside (b ∷ bytes) l at (suc k) h r =
    let z : suc at + k ≡ at + suc k = omega arith in
    rw z at (laid_inside bytes (set l at b) (suc at) k (omega arith) (rw length-set (omega arith)))

laid_after : (bytes l : List ℕ) (at k : ℕ) → at + length bytes ≤ k → get_or (laid l at bytes) k 0 ≡ get_or l k 0
unfolding laid
laid_after [] l at k h = refl
laid_after (b ∷ bytes) l at k h =
    let ne : k ≢ at = λ e. omega arith in laid_after bytes (set l at b) (suc at) k (omega arith) ∙ get_or-set_other l at k b 0 ne

pub laid_bytes : (l : List ℕ) (at : ℕ) (bytes : List ℕ) → Lies l at bytes
laid_bytes l at bytes = record {
  size = laid_length bytes l at;
  before = laid_before bytes l at;
  inside = laid_inside bytes l at;
  after = laid_after bytes l at;
}

laid_sets : (bytes l : List ℕ) (at : ℕ) → laid l at bytes ≡ sets l at bytes
unfolding laid
laid_sets [] l at = refl
laid_sets (b ∷ bytes) l at = laid_sets bytes (set l at b) (suc at)

-- bytes that fill a front of the buffer
pub laid_front : (bytes l : List ℕ) (k : ℕ) → length bytes ≡ k → k ≤ length l → bytes ++ drop k l ≡ laid l 0 bytes
laid_front bytes l k e h =
    let z : 0 + length bytes ≡ k = omega arith in rw (laid_sets, sets-eq bytes l 0 (omega arith), z)

-- and stand there
pub laid_whole : (bytes l : List ℕ) → length bytes ≤ length l → take (length bytes) (laid l 0 bytes) ≡ bytes
laid_whole bytes l h = rw (← laid_front bytes l (length bytes) refl h) (take-append_seam bytes _)

-- past the buffer's end nothing is stored
laid_out : (bytes l : List ℕ) (at : ℕ) → length l ≤ at → laid l at bytes ≡ l
unfolding laid
laid_out [] l at h = refl
laid_out (b ∷ bytes) l at h = rw (set_out l at b h) (laid_out bytes l (suc at) (omega arith))

-- ---- places

module _ (a k : ℕ) where
  pub after_within : a + k ≤ last_place → after a k ≡ a + k
  unfolding after
  after_within h = min-eq_left h

  pub after_beyond : last_place ≤ a + k → after a k ≡ last_place
  unfolding after
  after_beyond h = min-eq_right h

after_then : (a j k : ℕ) → after (after a j) k ≡ after a (j + k)
after_then a j k = go (ltb (a + j) last_place) refl (ltb (a + j + k) last_place) refl
  where
    go : (p : Bool) → ltb (a + j) last_place ≡ p → (q : Bool) → ltb (a + j + k) last_place ≡ q → after (after a j) k ≡ after a (j + k)
    go true p true q =
        let u = ltb-true (a + j) last_place p in
        let v = ltb-true (a + j + k) last_place q in
        rw (after_within a j (omega arith), after_within (a + j) k (omega arith), after_within a (j + k) (omega arith)) (omega arith)
    go true p false q =
        let u = ltb-true (a + j) last_place p in
        let v = ltb-false (a + j + k) last_place q in
        rw (after_within a j (omega arith), after_beyond (a + j) k v, after_beyond a (j + k) (omega arith))
    go false p b q =
        let u = ltb-false (a + j) last_place p in
        rw (after_beyond a j u, after_beyond last_place k (omega arith), after_beyond a (j + k) (omega arith))

-- bytes after others lie where they would if places had no end
laid_later : (l : List ℕ) (a k : ℕ) (bytes : List ℕ) → length l < 2 ^ 64 → laid l (after a k) bytes ≡ laid l (a + k) bytes
laid_later l a k bytes h = go (ltb (a + k) last_place) refl
  where
    go : (p : Bool) → ltb (a + k) last_place ≡ p → laid l (after a k) bytes ≡ laid l (a + k) bytes
    go true p = let u = ltb-true (a + k) last_place p in rw (after_within a k (omega arith))
    go false p =
        let u = ltb-false (a + k) last_place p in
        rw (after_beyond a k u, laid_out bytes l last_place (omega arith), laid_out bytes l (a + k) (omega arith))

-- ---- a text put piece by piece

pub puts_length : {l₀ l₁ : List ℕ} {a b : ℕ} {xs : List ℕ} → Puts l₀ l₁ a xs b → length l₁ ≡ length l₀
puts_length {l₀} {l₁} {a} {b} {xs} p = rw p.text_is (laid_length xs l₀ a)

-- from the front, where the buffer has room for all of it
pub puts_whole : {l₀ l₁ : List ℕ} {n : ℕ} {bytes : List ℕ} → Puts l₀ l₁ 0 bytes n → length bytes ≤ length l₀
    → (n ≤ length l₁) × (take n l₁ ≡ bytes)
puts_whole {l₀} {l₁} {n} {bytes} p h =
    let n_is : n ≡ length bytes = p.answer_is ∙ after_within 0 (length bytes) (omega (arith, p.size_fits)) ∙ zero-add (length bytes) in
    (rw (n_is, p.text_is, laid_length) h, rw (n_is, p.text_is) (laid_whole bytes l₀ h))

pub puts_none : (l : List ℕ) (a : ℕ) → length l < 2 ^ 64 → a < 2 ^ 64 → Puts l l a [] a
unfolding laid
puts_none l a s h = record {
  text_is = refl;
  answer_is = sym (after_within a 0 (omega arith) ∙ add-zero a);
  size_fits = s;
}

pub puts_one : (l : List ℕ) (a b : ℕ) → length l < 2 ^ 64 → Puts l (set l a b) a (b ∷ []) (after a 1)
unfolding laid
puts_one l a b s = record { text_is = refl; answer_is = refl; size_fits = s }

pub puts_out : (l : List ℕ) (a b : ℕ) → length l < 2 ^ 64 → length l ≤ a → Puts l l a (b ∷ []) (after a 1)
unfolding laid
puts_out l a b s h = record { text_is = rw (set_out l a b h); answer_is = refl; size_fits = s }

pub puts_then : {l₀ l₁ l₂ : List ℕ} {a b c : ℕ} {xs ys : List ℕ} → Puts l₀ l₁ a xs b → Puts l₁ l₂ b ys c → Puts l₀ l₂ a (xs ++ ys) c
puts_then {l₀} {l₁} {l₂} {a} {b} {c} {xs} {ys} p q = record {
  text_is =
      q.text_is
      ∙ rw (p.answer_is, p.text_is, laid_append xs ys l₀ a)
      (laid_later (laid l₀ a xs) a (length xs) ys (rw laid_length p.size_fits));
  answer_is = q.answer_is ∙ rw (p.answer_is, length-append xs ys) (after_then a (length xs) (length ys));
  size_fits = p.size_fits;
}

-- a text of one line
pub puts_line : {l₀ l₁ : List ℕ} {a b : ℕ} {xs : List ℕ} → Puts l₀ l₁ a xs b → Puts l₀ l₁ a (xs ++ []) b
puts_line p = rw append-nil p

-- a turn of the loop that puts a word
pub puts_turn : {l₀ l₁ l₂ : List ℕ} {a b c : ℕ} (xs : List ℕ) (i : ℕ) → i < length xs
    → Puts l₀ l₁ a (take i xs) b → Puts l₁ l₂ b (get_or xs i 0 ∷ []) c → Puts l₀ l₂ a (take (i + 1) xs) c
puts_turn xs i h p q = rw (add-one, take-suc xs i 0) (puts_then p q)
