-- What the private functions do: for their contracts, and no part of what the public calls promise.
use Rattle.std.specs.Prelude.{ℕ, suc, ◌%◌, ◌<◌, ◌≤◌, ◌≡◌, Bool, List, length, get_or, if◌then◌else◌}
use Rattle.line.specs.Ballot.{silence}
use Rattle.xorshift.specs.State.{state_after}
use Rattle.generator.specs.Tables.{ballot, steps_before, byte_at}

-- the j-th byte of a marked sender's row, which begins at this state
unfoldable pub drawn_byte : ℕ → ℕ → ℕ
drawn_byte state j = ballot (state_after (suc j) state)

-- of a sender's row, which may be marked
unfoldable pub row_byte : Bool → ℕ → ℕ → ℕ
row_byte bad state j = if bad then drawn_byte state j else silence

-- whole rows of n bytes
pub record Rows (n size : ℕ) : Type 0 where
  pub some : 1 ≤ n
  pub whole : size % n ≡ 0

-- the bytes before the place `at` are drawn, and s is the state after them
pub record Drawn (n marks state at : ℕ) (table₀ table : List ℕ) (s : ℕ) : Type 0 where
  pub size : length table ≡ length table₀
  pub bytes_are : (k : ℕ) → k < at → get_or table k 0 ≡ byte_at n marks state k
  pub state_is : s ≡ state_after (steps_before n marks at) state
