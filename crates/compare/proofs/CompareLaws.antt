-- Laws of comparing: a row is all one byte where its first 16 and its last 16 are. Assumes nothing.
use Prim.Native.Nat.{ℕ, ◌+◌, ◌-◌, ◌*◌, ◌≤◌, ◌<◌}
use mathlib.Core.Path.{◌≡◌, refl, sym, ◌∙◌}
use mathlib.Core.Bool.{Bool, true, false, ◌&&◌}
use Rattle.std.proofs.lemmas.Bool.{false≢true}
use mathlib.Core.Logic.{◌≢◌, ⊎_elim}
use mathlib.Core.List.{List}
use native.Mathlib.Omega.{arith}
use lib.Dec.{eqb}
use lib.ListN.{length, get_or, take, drop, replicate, length-drop, length-replicate, get_or-replicate}
use lib.Seq.{get_or-take, get_or-drop, length-take-le, ext_get_or}
use borrow.Author.Tests.{eqb-true, eq-eqb}
use Rattle.std.specs.Bool.{MatchBool, Decides}
use Rattle.std.specs.List.{AllWithin, HoldsAt}
use Rattle.std.proofs.lemmas.Bool.Decides.{same_from_decides, Decides-eqb}
use Rattle.std.proofs.lemmas.Slice.Eq.{slice_eq-Decides}
use lib.Pointwise.{pointwise}
use Rattle.line.specs.Count.{all}
use Rattle.line.specs.Line.{has_round}
use Rattle.line.specs.Writing.{Each}
use Rattle.line.proofs.WritingLaws.{zeros}
use Rattle.line.proofs.LineLaws.{round_means, row_within}
use Rattle.line.proofs.CountLaws.{le_or_lt, all_true, all_hold, all_same, both_true, both_hold}
use Rattle.compare.specs.Compare.{sends, unless_other, kept_on}

-- ---- a row

module _ (row : List ℕ) (b : ℕ) where
  abbrev AllAre : Type 0
  AllAre = (k : ℕ) → k < length row → get_or row k 0 ≡ b

  decided : Decides (all (length row) (λ j. eqb (get_or row j 0) b)) AllAre
  decided =
      (λ e k h. eqb-true _ b (all_true (length row) _ e k h), λ same. all_hold (length row) _ (λ k h. eq-eqb _ b (same k h)))

  -- as `all` tells
  pub each_told : (r : Bool) → MatchBool r (AllWithin (λ x. x ≡ b) row 0 (length row)) ((k : ℕ) × (k < length row) × HoldsAt (λ x. x ≢ b) row k)
      → r ≡ all (length row) (λ j. eqb (get_or row j 0) b)
  each_told r told = same_from_decides r _ (told_by r told) decided
    where
      told_by : (r : Bool) → MatchBool r (AllWithin (λ x. x ≡ b) row 0 (length row)) ((k : ℕ) × (k < length row) × HoldsAt (λ x. x ≢ b) row k) → Decides r AllAre
      told_by true h = (λ e k l. h k 0 (omega arith) l, λ same. refl)
      told_by false h = (λ e. absurd (false≢true e), λ same. absurd (h.2 0 (same h.0 h.1)))

  -- by the first 16 and the last 16
  pub both_told : (first last : List ℕ) (p q : Bool) → 16 ≤ length row → length row ≤ 32 → first ≡ take 16 row → last ≡ drop (length row - 16) row
      → p ≡ pointwise eqb first (replicate 16 b) → q ≡ pointwise eqb last (replicate 16 b) → (p && q) ≡ all (length row) (λ j. eqb (get_or row j 0) b)
  both_told first last p q enough most first_is last_is p_is q_is = same_from_decides (p && q) _ (told, holds) decided
    where
      first_told : Decides p (take 16 row ≡ replicate 16 b)
      first_told = rw first_is at (slice_eq-Decides Decides-eqb first (replicate 16 b) p p_is)

      last_told : Decides q (drop (length row - 16) row ≡ replicate 16 b)
      last_told = rw last_is at (slice_eq-Decides Decides-eqb last (replicate 16 b) q q_is)

      sixteen : length (drop (length row - 16) row) ≡ 16
      sixteen = length-drop (length row - 16) row ∙ omega arith

      told : (p && q) ≡ true → AllAre
      told e k h =
          let (u, v) = both_true p q e in
          ⊎_elim
          (λ (l : 16 ≤ k).
          let place : length row - 16 + (k - (length row - 16)) ≡ k = omega arith in
          rw place at (sym (get_or-drop (length row - 16) row (k - (length row - 16)) 0))
          ∙ (rw (last_told.0 v) (get_or-replicate 16 (k - (length row - 16)) b 0 (omega arith))))
          (λ (l : k < 16). sym (get_or-take 16 row k 0 l) ∙ (rw (first_told.0 u) (get_or-replicate 16 k b 0 l)))
          (le_or_lt 16 k)

      holds : AllAre → (p && q) ≡ true
      holds same =
          both_hold p q
          (first_told.1
          (ext_get_or 0 _ _ (length-take-le 16 row enough ∙ sym (length-replicate 16 b))
          (λ k h.
          let l : k < 16 = rw (length-take-le 16 row enough) at h in
          get_or-take 16 row k 0 l ∙ same k (omega arith) ∙ sym (get_or-replicate 16 k b 0 l))))
          (last_told.1
          (ext_get_or 0 _ _ (sixteen ∙ sym (length-replicate 16 b))
          (λ k h.
          let l : k < 16 = rw sixteen at h in
          get_or-drop (length row - 16) row k 0 ∙ same (length row - 16 + k) (omega arith) ∙ sym (get_or-replicate 16 k b 0 l))))

-- ---- a row of a round

module _ (n : ℕ) (bytes : List ℕ) (start i : ℕ) where
  pub row_there : has_round n start (length bytes) ≡ true → i < n → (start + i * n + n ≤ length bytes) × (n ≤ 32)
  row_there room h =
      let there = round_means n start (length bytes) room in
      let within = row_within i n n h in
      (omega (arith, there.1), there.0)

  abbrev row : List ℕ
  row = take (start + i * n + n - (start + i * n)) (drop (start + i * n) bytes)

  row_is : (j : ℕ) → j < n → get_or row j 0 ≡ get_or bytes (start + i * n + j) 0
  row_is j h = get_or-take _ (drop (start + i * n) bytes) j 0 (omega arith) ∙ get_or-drop (start + i * n) bytes j 0

  pub row_long : has_round n start (length bytes) ≡ true → i < n → length row ≡ n
  row_long room h =
      let fits : start + i * n + n - (start + i * n) ≤ length (drop (start + i * n) bytes) = rw (length-drop (start + i * n) bytes) (omega (arith, (row_there room h).0)) in
      length-take-le _ (drop (start + i * n) bytes) fits ∙ omega arith

  pub row_sends : (b : ℕ) → has_round n start (length bytes) ≡ true → i < n → all (length row) (λ j. eqb (get_or row j 0) b) ≡ sends bytes start n i b
  unfolding sends
  row_sends b room h = rw (row_long room h) (all_same n _ _ (λ j l. rw (row_is j l)))

-- ---- a round

module _ (n : ℕ) (said bytes : List ℕ) (start : ℕ) (kept : List ℕ) where
  pub kept_there : (i : ℕ) → has_round n start (length bytes) ≡ true → kept_on n said bytes start kept i ≡ unless_other bytes start n said kept i
  unfolding kept_on
  kept_there i e = rw e

  pub kept_all : (l : List ℕ) → has_round n start (length bytes) ≡ true → Each n l (unless_other bytes start n said kept) → Each n l (kept_on n said bytes start kept)
  unfolding Each
  kept_all l room each i h = each i h ∙ sym (kept_there i room)

  pub kept_nowhere : has_round n start (length bytes) ≡ false → Each n (replicate 32 0) (kept_on n said bytes start kept)
  unfolding Each kept_on
  kept_nowhere e i h = zeros 32 i ∙ rw e
