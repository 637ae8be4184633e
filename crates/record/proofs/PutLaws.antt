-- Laws of the bytes that are put one after the other. Assumes nothing.
use Prim.Native.Nat.{ℕ, suc, ◌+◌, ◌≤◌, ◌<◌}
use mathlib.Core.Path.{◌≡◌, refl, ◌∙◌}
use mathlib.Core.Logic.{◌≢◌, ◌⊎◌, inl, inr}
use mathlib.Core.List.{List, [], ◌∷◌, ◌++◌, append_assoc}
use native.Mathlib.Omega.{arith}
use lib.ListN.{length, get_or, drop, set}
use lib.Seq.{sets, sets-eq, drop-drop, drop-cons}
use Rattle.std.proofs.Common.{lit<}
use Rattle.std.proofs.lemmas.List.{drop_all}
use borrow.Author.Tests.{le-leb, lt-leb, eq-eqb, ne_eqb}
use Rattle.line.proofs.WritingLaws.{spliced}
use Rattle.text.specs.Laid.{laid}
use Rattle.text.proofs.LaidLaws.{laid_front}
use Rattle.layout.specs.Layout.{byte}
use Rattle.record.specs.Bytes.{low, high, first_index, header_bytes}
use Rattle.record.specs.Put.{put_in, header_in}

-- ---- a part of a list

laid_sets : (bytes l : List ℕ) (at : ℕ) → laid l at bytes ≡ sets l at bytes
unfolding laid
laid_sets [] l at = refl
laid_sets (b ∷ bytes) l at = laid_sets bytes (set l at b) (suc at)

-- bytes in the place of k
pub laid_part : (l : List ℕ) (at k : ℕ) (bytes : List ℕ) → k ≡ length bytes → at + k ≤ length l → spliced l bytes at k ≡ laid l at bytes
laid_part l at k bytes e h = rw (laid_sets, e, sets-eq bytes l at (rw e at h), drop-drop, append_assoc)

-- ---- a header

-- its twelve bytes one by one
by_bytes : (h : List ℕ) → length h ≡ 12
    → h ≡ byte h 0 ∷ byte h 1 ∷ byte h 2 ∷ byte h 3 ∷ byte h 4 ∷ byte h 5 ∷ byte h 6 ∷ byte h 7 ∷ byte h 8 ∷ byte h 9 ∷ byte h 10 ∷ byte h 11 ∷ []
unfolding byte
by_bytes h e =
    let d : (i : ℕ) → i < 12 → drop i h ≡ get_or h i 0 ∷ drop (suc i) h = λ (i : ℕ) (l : i < 12). drop-cons h i 0 (rw e l) in
    let end : drop 12 h ≡ [] = drop_all 12 h (omega arith) in
    cc (end, d 0 (lit< tt), d 1 (lit< tt), d 2 (lit< tt), d 3 (lit< tt), d 4 (lit< tt), d 5 (lit< tt), d 6 (lit< tt), d 7 (lit< tt), d 8 (lit< tt), d 9 (lit< tt), d 10 (lit< tt), d 11 (lit< tt))

-- ---- room

module _ (sheet : List ℕ) (at : ℕ) (bytes : List ℕ) where
  pub put_there : at + length bytes ≤ length sheet → put_in sheet at bytes ≡ laid sheet at bytes
  unfolding put_in
  put_there h = rw (le-leb (at + length bytes) (length sheet) h)

  -- bytes that were copied there
  pub put_part : (k : ℕ) (part : List ℕ) → part ≡ bytes → k ≡ length bytes → at + length bytes ≤ length sheet → spliced sheet part at k ≡ put_in sheet at bytes
  put_part k part e q h = rw (e, put_there h) (laid_part sheet at k bytes q (rw q h))

  pub put_not : length sheet < at + length bytes → sheet ≡ put_in sheet at bytes
  unfolding put_in
  put_not h = rw (lt-leb (at + length bytes) (length sheet) h)

module _ (sheet h : List ℕ) (k : ℕ) where
  -- a header of another length is not put, nor one without room
  pub header_not : (length h ≢ 12) ⊎ ((length h ≡ 12) × (length sheet < 12)) → sheet ≡ header_in sheet h k
  unfolding header_in header_bytes
  header_not (inl e) = rw (ne_eqb (length h) 12 e)
  header_not (inr (e, l)) = rw (eq-eqb (length h) 12 e) (put_not sheet 0 _ l)

  pub header_there : length h ≡ 12 → 12 ≤ length sheet → header_in sheet h k ≡ laid sheet 0 (header_bytes h k)
  unfolding header_in header_bytes
  header_there e l = rw (eq-eqb (length h) 12 e) (put_there sheet 0 _ l)

  -- twelve bytes that were copied, and two of them anew
  pub header_part : (front two : List ℕ) → length h ≡ 12 → 12 ≤ length sheet → front ≡ h → two ≡ low (first_index k) ∷ high (first_index k) ∷ []
      → spliced (front ++ drop 12 sheet) two 6 2 ≡ header_in sheet h k
  unfolding header_bytes
  header_part front two e l q r =
      rw (header_there e l, ← laid_front (header_bytes h k) sheet 12 refl l, q ∙ by_bytes h e, r)
