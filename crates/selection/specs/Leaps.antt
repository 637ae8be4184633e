-- Leaping from one marked station to the next. Stations are counted from 0.
use Rattle.std.specs.Prelude.{ℕ, zero, suc, ◌-◌, ◌<◌, ◌≡◌, ◌&&◌, List, leb, length, get_or, if◌then◌else◌}
use Rattle.line.specs.Line.{most_stations}
use Rattle.line.specs.Marks.{marked}

-- the first marked station of the c from i on; the one after them where none is marked
unfoldable pub next_marked : ℕ → ℕ → ℕ → ℕ
next_marked marks i zero = i
next_marked marks i (suc c) = if marked marks i then i else next_marked marks (suc i) c

-- the first marked station of n from i on, n where none follows; also n from station n on, and in a line of more than 32
unfoldable pub leap_to : ℕ → ℕ → ℕ → ℕ
leap_to marks n i = if leb n most_stations && leb i n then next_marked marks i (n - i) else n

-- what `leaps` promises: all 33 places
pub record Leaps (marks n : ℕ) (to : List ℕ) : Type 0 where
  pub size : length to ≡ 33
  pub each : (i : ℕ) → i < 33 → get_or to i 0 ≡ leap_to marks n i
