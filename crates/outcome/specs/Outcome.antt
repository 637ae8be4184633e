-- The outcomes' bytes, from the stations' values, grades and counts.
use Rattle.std.specs.Prelude.{ℕ, ◌/◌, ◌%◌, min, Bool, List, get_or, if◌then◌else◌}
use Rattle.line.specs.Line.{outcome_size, largest_outcomes}
use Rattle.line.specs.Marks.{marked}
use Rattle.broadcast.specs.Exchange.{flag_of}
use Rattle.broadcast.specs.Bytes.{pick}

-- byte d of a station's outcome, "255 at a bad one" (request 4)
unfoldable pub outcome_byte : Bool → ℕ → ℕ → ℕ → ℕ → ℕ
outcome_byte bad value grade garbled d = if bad then 255 else pick value grade (flag_of grade) garbled d

-- byte k of all
unfoldable pub outcome_at : List ℕ → List ℕ → List ℕ → ℕ → ℕ → ℕ
outcome_at value grade garbled marks k =
    let i = k / outcome_size in outcome_byte (marked marks i) (get_or value i 0) (get_or grade i 0) (get_or garbled i 0) (k % outcome_size)

-- how many bytes of a buffer of this length are written: those of 32 stations at most
unfoldable pub reach : ℕ → ℕ
reach size = min size largest_outcomes
