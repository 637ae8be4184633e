-- What the generator's calls promise, for all arguments.
use Rattle.std.specs.Prelude.{ℕ, ◌%◌, ◌≡◌, Bool, ◌&&◌, List, ltb, eqb, length, if◌then◌else◌}
use Rattle.refusal.specs.Cause.{Judged, written}
use Rattle.refusal.specs.Cause.{Verdict}
use Rattle.layout.specs.Layout.{header}
use Rattle.xorshift.specs.State.{state_after}
use Rattle.generator.specs.Tables.{steps_before, noise, generated}
use Rattle.generator.specs.Judgement.{generate_verdict}

-- `generate`: `table₀` is the lent buffer at entry, `table₁` at exit
pub record Generates (h : List ℕ) (seed : ℕ) (table₀ table₁ : List ℕ) (answer : Verdict) : Type 0 where
  -- accepted, or the first cause that holds, and its number
  pub judged : Judged (generate_verdict h seed (length table₀)) answer
  -- every byte of the buffer at exit: the tables', or as it was
  pub table_is : table₁ ≡ written answer (generated (header h) seed) table₀

-- ---- a part of the tables, from a state on

-- whether so many bytes are whole rows of n
unfoldable pub whole_rows : ℕ → ℕ → Bool
whole_rows n size = ltb 0 n && eqb (size % n) 0

-- `fill`: every byte of the table at exit, and the state after it; both as they were where the table has no whole rows
pub record Fills (n marks state : ℕ) (table₀ table₁ : List ℕ) (answer : ℕ) : Type 0 where
  pub table_is : table₁ ≡ (if whole_rows n (length table₀) then noise n marks state (length table₀) else table₀)
  pub state_is : answer ≡ (if whole_rows n (length table₀) then state_after (steps_before n marks (length table₀)) state else state)
