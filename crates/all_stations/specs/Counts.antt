-- The count of a first round, from its bytes.
use Rattle.std.specs.Prelude.{ℕ, leb, if◌then◌else◌}

-- how many ballots of a first round count for x, where so many bytes are x: "a byte other than 0 or 1 now counts for neither value" (request 2)
unfoldable pub votes_for : ℕ → ℕ → ℕ
votes_for x equal = if leb x 1 then equal else 0
