-- Laws of the written sheet's chain: it goes through all records, 1, 2, 3, and ends. Assumes nothing.
use Prim.Native.Nat.{ℕ, zero, suc, ◌+◌, ◌≤◌, ◌<◌}
use mathlib.Core.Path.{◌≡◌, refl, ◌∙◌}
use mathlib.Core.List.{List}
use native.Mathlib.Omega.{arith}
use borrow.Author.Tests.{lt-ltb, le-ltb, ne_eqb, eq-eqb}
use Rattle.layout.specs.Layout.{header}
use Rattle.layout.specs.Chain.{Record, after, reached, Ends}
use Rattle.layout.proofs.ChainLaws.{after_record}
use Rattle.selection.specs.Places.{how_many}
use Rattle.record.specs.Bytes.{first_index}
use Rattle.writer.specs.Sheet.{next_index, sheet}
use Rattle.normal_form.proofs.SheetLaws.{records_are, first_is, next_is}

first_some : (k : ℕ) → 0 < k → first_index k ≡ 1
unfolding first_index
first_some k h = rw (ne_eqb k 0 (λ e. omega arith))

first_none : (k : ℕ) → k ≡ 0 → first_index k ≡ 0
unfolding first_index
first_none k e = rw (eq-eqb k 0 e)

next_some : (k m : ℕ) → m < k → next_index k m ≡ m + 1
unfolding next_index
next_some k m h = rw (lt-ltb m k h)

next_none : (k m : ℕ) → k ≤ m → next_index k m ≡ 0
unfolding next_index
next_none k m h = rw (le-ltb m k h)

module _ (h table : List ℕ) where
  pub is_record : (m : ℕ) → 1 ≤ m → m ≤ how_many (header h) table → Record (sheet h table) m
  is_record m a b = record { low = a; high = omega (arith, records_are h table) }

  follows : (m : ℕ) → 1 ≤ m → m ≤ how_many (header h) table → after (sheet h table) m ≡ next_index (how_many (header h) table) m
  follows m a b = after_record (sheet h table) m (is_record m a b) ∙ next_is h table m a b

  -- record a + 1 stands at position a
  pub reached_is : (a : ℕ) → a < how_many (header h) table → reached (sheet h table) a ≡ a + 1
  unfolding reached
  reached_is zero l = first_is h table ∙ first_some (how_many (header h) table) l
  reached_is (suc a) l =
      rw (reached_is a (omega arith), follows (a + 1) (omega arith) (omega arith), next_some (how_many (header h) table) (a + 1) (omega arith)) (omega arith)

  -- and nothing after the last
  end : (k : ℕ) → how_many (header h) table ≡ k → reached (sheet h table) k ≡ 0
  unfolding reached
  end zero e = first_is h table ∙ first_none (how_many (header h) table) e
  end (suc a) e =
      rw (reached_is a (omega arith), follows (a + 1) (omega arith) (omega arith)) (next_none (how_many (header h) table) (a + 1) (omega arith))

  pub chain_ends : Ends (sheet h table) (how_many (header h) table)
  chain_ends = record {
    chained = λ a l. rw (reached_is a l) (is_record (a + 1) (omega arith) (omega arith));
    zero_there = end (how_many (header h) table) refl;
  }
