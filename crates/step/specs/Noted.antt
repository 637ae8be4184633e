-- The count of garbled rounds in one byte.
use Rattle.std.specs.Prelude.{ℕ, ◌+◌, ◌&&◌, ltb, if◌then◌else◌}

-- one more where so many of a round's ballots are garbled, however many; 255 stays, since a byte has no more. No station of a line comes so far: it is done after
-- at most 36 rounds
unfoldable pub noted : ℕ → ℕ → ℕ
noted garbled found = (if ltb 0 found && ltb garbled 255 then 1 else 0) + garbled
