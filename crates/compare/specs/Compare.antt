-- A round's bytes from one sender beside what it should send. Stations are counted from 0. Bytes are laid out like a run table.
use Rattle.std.specs.Prelude.{ℕ, ◌+◌, ◌*◌, Bool, List, eqb, length, get_or, if◌then◌else◌}
use Rattle.line.specs.Count.{all}
use Rattle.line.specs.Line.{has_round}

-- in the round that starts at `start`, station i sends b to every receiver
unfoldable pub sends : List ℕ → ℕ → ℕ → ℕ → ℕ → Bool
sends bytes start n i b = all n (λ j. eqb (get_or bytes (start + i * n + j) 0) b)

-- what stands in `kept` where station i sends what is said, otherwise 0
unfoldable pub unless_other : List ℕ → ℕ → ℕ → List ℕ → List ℕ → ℕ → ℕ
unless_other bytes start n said kept i = if sends bytes start n i (get_or said i 0) then get_or kept i 0 else 0

-- 0 too where the bytes have no such round
unfoldable pub kept_on : ℕ → List ℕ → List ℕ → ℕ → List ℕ → ℕ → ℕ
kept_on n said bytes start kept i = if has_round n start (length bytes) then unless_other bytes start n said kept i else 0
