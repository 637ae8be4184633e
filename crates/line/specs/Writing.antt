-- What a loop leaves in a buffer that it writes from one place on: for the contracts of private functions.
use Rattle.std.specs.Prelude.{ℕ, zero, suc, ◌+◌, ◌<◌, ◌≡◌, List, get_or, set}

-- l with F k stored at a + k, for k below m
unfoldable pub over : List ℕ → ℕ → ℕ → (ℕ → ℕ) → List ℕ
over l a zero F = l
over l a (suc m) F = set (over l a m F) (a + m) (F m)

-- the first m bytes of l are F's
unfoldable pub Each : ℕ → List ℕ → (ℕ → ℕ) → Type 0
Each m l F = (j : ℕ) → j < m → get_or l j 0 ≡ F j
