-- Laws of the places to be written, in order. Assumes nothing.
use Prim.Native.Nat.{ℕ, ◌+◌, ◌-◌, ◌≤◌, ◌<◌}
use mathlib.Core.Path.{◌≡◌, refl}
use mathlib.Core.Bool.{Bool, true, false, not, ◌&&◌}
use mathlib.Core.List.{List}
use native.Mathlib.Omega.{arith}
use lib.Dec.{eqb}
use lib.ListN.{get_or}
use borrow.Author.Tests.{eqb-true, not-false}
use Rattle.line.specs.Count.{count}
use Rattle.line.specs.Width.{tables_length}
use Rattle.line.specs.Marks.{marked}
use Rattle.line.specs.Ballot.{silence}
use Rattle.header.specs.declared.Header.{Header}
use Rattle.selection.specs.Places.{from_at, to_write, how_many, place_written}
use Rattle.selection.specs.Theorems.{InOrder}
use Rattle.selection.proofs.RankLaws.{Ranked, ranked_is, ranked_back, rank_less, less_rank}

-- ---- the test

module _ (n marks : ℕ) (table : List ℕ) (p : ℕ) where
  pub write_marked : to_write n marks table p ≡ true → marked marks (from_at n p) ≡ true
  unfolding to_write
  write_marked e = go (marked marks (from_at n p)) e
    where
      go : (b : Bool) → b && not (eqb (get_or table p 0) silence) ≡ true → b ≡ true
      go true e = refl
      go false e = e

  -- a marked sender's byte that is not written is silence
  pub write_not : to_write n marks table p ≡ false → marked marks (from_at n p) ≡ true → get_or table p 0 ≡ 255
  unfolding to_write
  write_not e m =
      let b = eqb (get_or table p 0) silence in
      let f : not b ≡ false = rw m at e in
      eqb-true (get_or table p 0) silence (not-false b f)

-- ---- the places

module _ (h : Header) (table : List ℕ) where
  module _ (m : ℕ) (some : 1 ≤ m) (most : m ≤ how_many h table) where
    pub written_is : Ranked (to_write h.line.n h.marks table) (tables_length h.line.n h.line.t h.w) (m - 1) (place_written h table m)
    unfolding place_written how_many
    written_is = ranked_is (to_write h.line.n h.marks table) (tables_length h.line.n h.line.t h.w) (m - 1) (omega arith)

  pub written_back : (p : ℕ) → p < tables_length h.line.n h.line.t h.w → to_write h.line.n h.marks table p ≡ true
      → (count p (to_write h.line.n h.marks table) < how_many h table)
      × (place_written h table (count p (to_write h.line.n h.marks table) + 1) ≡ p)
  unfolding place_written how_many
  written_back p l e =
      let q = to_write h.line.n h.marks table in
      let z : count p q + 1 - 1 ≡ count p q = omega arith in
      (rank_less q p (tables_length h.line.n h.line.t h.w) l e, rw z (ranked_back q (tables_length h.line.n h.line.t h.w) p l e))

  pub in_order : InOrder h table
  in_order = record {
    is_one = λ m a b. (written_is m a b).passes;
    inside = λ m a b. (written_is m a b).below;
    all = written_back;
    increasing = λ m l a b c.
        let u = written_is m a (omega arith) in
        let v = written_is l (omega arith) c in
        less_rank (to_write h.line.n h.marks table) (place_written h table m) (place_written h table l) v.passes (omega (arith, u.rank, v.rank));
  }
