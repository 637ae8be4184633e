-- Laws of `over`: what stands where after the writing. Assumes nothing.
use Prim.Native.Nat.{ℕ, zero, suc, ◌+◌, ◌-◌, ◌≤◌, ◌<◌}
use mathlib.Core.Logic.{◌⊎◌, inl, inr, ⊎_elim, ◌≢◌}
use mathlib.Core.Path.{◌≡◌, refl, sym, ap, ◌∙◌}
use mathlib.Core.List.{List, ◌++◌}
use native.Mathlib.Numerals.{add-one}
use native.Mathlib.Nat.{add-zero, add-suc, eq-or-lt_of_le, le_of_suc-le-suc}
use native.Mathlib.Omega.{arith}
use lib.ListN.{length, get_or, set, take, drop, replicate, length-set, length-append, length-drop, length-replicate, get_or-replicate, get_or-append}
use lib.Seq.{get_or-set_same, get_or-set_other, get_or-take, get_or-drop, get_or-append-add, length-take-le, ext_get_or}
use Rattle.line.specs.Writing.{over, Each}
use Rattle.line.proofs.CountLaws.{le_or_lt}

module _ (l : List ℕ) (a : ℕ) (F : ℕ → ℕ) where
  pub over_none : l ≡ over l a 0 F
  unfolding over
  over_none = refl

  pub over_more : (m : ℕ) → over l a (m + 1) F ≡ set (over l a m F) (a + m) (F m)
  unfolding over
  over_more m = rw add-one

  -- a turn of a loop that writes
  pub over_turn : (m : ℕ) (l' : List ℕ) (v : ℕ) → l' ≡ over l a m F → v ≡ F m → set l' (a + m) v ≡ over l a (m + 1) F
  over_turn m l' v e q = rw (over_more m, e, q)

  pub over_length : (m : ℕ) → length (over l a m F) ≡ length l
  unfolding over
  over_length zero = refl
  over_length (suc m) = simp length-set (over_length m)

  pub over_before : (m k : ℕ) → k < a → get_or (over l a m F) k 0 ≡ get_or l k 0
  unfolding over
  over_before zero k h = refl
  over_before (suc m) k h = let ne : k ≢ a + m = λ e. omega arith in rw get_or-set_other (over_before m k h)

  pub over_after : (m k : ℕ) → a + m ≤ k → get_or (over l a m F) k 0 ≡ get_or l k 0
  unfolding over
  over_after zero k h = refl
  over_after (suc m) k h = let ne : k ≢ a + m = λ e. omega arith in rw get_or-set_other (over_after m k (omega arith))

  pub over_at : (m j : ℕ) → j < m → a + m ≤ length l → get_or (over l a m F) (a + j) 0 ≡ F j
  unfolding over
  over_at zero j h b = absurd (omega arith)
  over_at (suc m) j h b =
      ⊎_elim
      (λ (q : j ≡ m). let r : a + m < length (over l a m F) = rw over_length (omega arith) in rw (q, get_or-set_same))
      (λ (e : j < m). let ne : a + j ≢ a + m = λ q. omega arith in rw get_or-set_other (over_at m j e (omega arith)))
      (eq-or-lt_of_le (le_of_suc-le-suc h))

  -- a function that agrees writes the same
  pub over_same : (G : ℕ → ℕ) (m : ℕ) → ((j : ℕ) → j < m → F j ≡ G j) → over l a m F ≡ over l a m G
  unfolding over
  over_same G zero h = refl
  over_same G (suc m) h = rw (over_same G m (λ j p. h j (omega arith)), h m (omega arith))

-- writing goes on where another writing ended
pub over_on : (l : List ℕ) (a m : ℕ) (F G : ℕ → ℕ) (k : ℕ) → ((j : ℕ) → j < k → G j ≡ F (m + j))
    → over (over l a m F) (a + m) k G ≡ over l a (m + k) F
unfolding over
over_on l a m F G zero h = rw add-zero
over_on l a m F G (suc k) h =
    let e : a + m + k ≡ a + (m + k) = omega arith in
    rw (add-suc, over_on l a m F G k (λ j p. h j (omega arith)), h k (omega arith), e)

-- a turn of a loop that writes from the front
pub front_turn : (l : List ℕ) (F : ℕ → ℕ) (m : ℕ) (l' : List ℕ) (v : ℕ) → l' ≡ over l 0 m F → v ≡ F m → set l' m v ≡ over l 0 (m + 1) F
front_turn l F m l' v e q = let z : 0 + m ≡ m = omega arith in rw z at (over_turn l 0 F m l' v e q)

pub front_at : (l : List ℕ) (F : ℕ → ℕ) (m k : ℕ) → k < m → m ≤ length l → get_or (over l 0 m F) k 0 ≡ F k
front_at l F m k h b = let z : 0 + k ≡ k = omega arith in rw z at (over_at l 0 F m k h (omega arith))

-- a loop that writes one value from the front to the end leaves nothing else
pub over_all : (l : List ℕ) (v : ℕ) → over l 0 (length l) (λ k. v) ≡ replicate (length l) v
over_all l v =
    ext_get_or 0 _ _
    (over_length l 0 (λ k. v) (length l) ∙ sym (length-replicate (length l) v))
    (λ k h.
    let b : k < length l = rw over_length at h in
    front_at l (λ k. v) (length l) k b (omega arith) ∙ sym (get_or-replicate (length l) k v 0 b))

-- l with a part in place of its m bytes from `a` on
abbrev pub spliced : List ℕ → List ℕ → ℕ → ℕ → List ℕ
spliced l part a m = take a l ++ (part ++ drop m (drop a l))

module _ (l part : List ℕ) (a m : ℕ) (room : a + m ≤ length l) (size : length part ≡ m) where
  front : length (take a l) ≡ a
  front = length-take-le a l (omega arith)

  pub spliced_length : length (spliced l part a m) ≡ length l
  spliced_length = simp (length-append, length-drop, front, size) (omega arith)

  pub spliced_before : (k : ℕ) → k < a → get_or (spliced l part a m) k 0 ≡ get_or l k 0
  spliced_before k h = get_or-append (take a l) _ 0 k (rw front h) ∙ get_or-take a l k 0 h

  pub spliced_there : (k : ℕ) → k < m → get_or (spliced l part a m) (a + k) 0 ≡ get_or part k 0
  spliced_there k h =
      (rw front at (get_or-append-add (take a l) (part ++ drop m (drop a l)) k 0)) ∙ get_or-append part _ 0 k (rw size h)

  spliced_after : (k : ℕ) → get_or (spliced l part a m) (a + (m + k)) 0 ≡ get_or l (a + (m + k)) 0
  spliced_after k =
      (rw front at (get_or-append-add (take a l) (part ++ drop m (drop a l)) (m + k) 0))
      ∙ (rw size at (get_or-append-add part (drop m (drop a l)) k 0))
      ∙ get_or-drop m (drop a l) k 0
      ∙ get_or-drop a l (m + k) 0

  -- are a writing from there on
  pub over_part : (F : ℕ → ℕ) → ((k : ℕ) → k < m → get_or part k 0 ≡ F k) → spliced l part a m ≡ over l a m F
  over_part F same = ext_get_or 0 _ _ (spliced_length ∙ sym (over_length l a F m)) (λ k _. at_place k (le_or_lt a k) (le_or_lt (a + m) k))
    where
      at_place : (k : ℕ) → (a ≤ k) ⊎ (k < a) → (a + m ≤ k) ⊎ (k < a + m) → get_or (spliced l part a m) k 0 ≡ get_or (over l a m F) k 0
      at_place k (inr h) _ = spliced_before k h ∙ sym (over_before l a F m k h)
      at_place k (inl h) (inr b) =
          let e : a + (k - a) ≡ k = omega arith in
          rw e at (spliced_there (k - a) (omega arith) ∙ same (k - a) (omega arith) ∙ sym (over_at l a F m (k - a) (omega arith) room))
      at_place k (inl h) (inl b) =
          let e : a + (m + (k - a - m)) ≡ k = omega arith in rw e at (spliced_after (k - a - m)) ∙ sym (over_after l a F m k b)

-- a part filled with one byte, as the code lends it
pub over_filled : (l part : List ℕ) (a k m b : ℕ) → k ≡ m → a + m ≤ length l → part ≡ replicate (length (take k (drop a l))) b
    → spliced l part a k ≡ over l a m (λ j. b)
over_filled l part a k m b e room q =
    let long : length (take m (drop a l)) ≡ m = length-take-le m (drop a l) (rw (length-drop a l) (omega arith)) in
    let same : part ≡ replicate m b = q ∙ rw (e, long) refl in
    rw e (over_part l part a m room (ap length same ∙ length-replicate m b) (λ j. b) (λ j h. rw same (get_or-replicate m j b 0 h)))

-- ---- an array that a loop fills from the front

pub each_none : (l : List ℕ) (F : ℕ → ℕ) → Each 0 l F
unfolding Each
each_none l F j h = absurd (omega arith)

-- one byte more
pub each_turn : (l : List ℕ) (F : ℕ → ℕ) (m v : ℕ) → m < length l → Each m l F → v ≡ F m → Each (m + 1) (set l m v) F
unfolding Each
each_turn l F m v h below here i k =
    ⊎_elim
    (λ (q : i ≡ m). rw (q, get_or-set_same) here)
    (λ (e : i < m). let ne : i ≢ m = λ q. omega arith in rw get_or-set_other (below i e))
    (eq-or-lt_of_le (let h' : i ≤ m = omega arith in h'))

-- the first of more
pub each_fewer : (m n : ℕ) (l : List ℕ) (F : ℕ → ℕ) → n ≤ m → Each m l F → Each n l F
unfolding Each
each_fewer m n l F h each j k = each j (omega arith)

-- an array of zeros is 0 everywhere, and past its end
pub zeros : (m j : ℕ) → get_or {A = ℕ} (replicate m 0) j 0 ≡ 0
zeros zero zero = refl
zeros zero (suc j) = refl
zeros (suc m) zero = refl
zeros (suc m) (suc j) = zeros m j
