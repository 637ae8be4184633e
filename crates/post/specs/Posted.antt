-- A round's ballots in the log (document 01, "The broadcast": "The rehearsal writes a log, laid out like the table."). Stations are counted from 0.
use Rattle.std.specs.Prelude.{ℕ, ◌+◌, ◌*◌, ◌/◌, ◌<◌, ◌≡◌, false, ◌&&◌, List, length, get_or, if◌then◌else◌}
use Rattle.line.specs.Line.{has_round}
use Rattle.line.specs.Marks.{marked}
use Rattle.line.specs.Writing.{over}

-- byte k of the round that starts at `start`, which is from station k / n: "A bad station's bytes are copied from the table unread", and a good one's is what the
-- steps make it send
unfoldable pub ballot_at : List ℕ → List ℕ → ℕ → ℕ → ℕ → ℕ → ℕ
ballot_at said table marks start n k = if marked marks (k / n) then get_or table (start + k) 0 else get_or said (k / n) 0

-- the log with the round's n·n bytes in it, where log and table have room for it; otherwise as it is
unfoldable pub posted : ℕ → ℕ → List ℕ → List ℕ → List ℕ → ℕ → List ℕ
posted n marks said table log start =
    if has_round n start (length log) && has_round n start (length table)
    then over log start (n * n) (ballot_at said table marks start n)
    else log

-- ---- for private functions: a sender's bytes, from the place a on

unfoldable pub same : ℕ → ℕ → ℕ
same b k = b

unfoldable pub from_table : List ℕ → ℕ → ℕ → ℕ
from_table table a k = get_or table (a + k) 0

-- from station i to before station r: good ones that say what i says
unfoldable pub Alike : List ℕ → ℕ → ℕ → ℕ → Type 0
Alike said marks i r = (k : ℕ) → i < k → k < r → (marked marks k ≡ false) × (get_or said k 0 ≡ get_or said i 0)
