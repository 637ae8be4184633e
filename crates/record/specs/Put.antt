-- What the calls leave in a buffer.
use Rattle.std.specs.Prelude.{ℕ, ◌+◌, List, leb, eqb, length, if◌then◌else◌}
use Rattle.text.specs.Laid.{laid}
use Rattle.record.specs.Bytes.{header_bytes}

-- a sheet with these bytes from the place `at` on; as it was where they have no room
unfoldable pub put_in : List ℕ → ℕ → List ℕ → List ℕ
put_in sheet at bytes = if leb (at + length bytes) (length sheet) then laid sheet at bytes else sheet

-- a sheet with a header of twelve bytes at its start, where k records follow; as it was where that has no room, or has not twelve bytes
unfoldable pub header_in : List ℕ → List ℕ → ℕ → List ℕ
header_in sheet h k = if eqb (length h) 12 then put_in sheet 0 (header_bytes h k) else sheet
