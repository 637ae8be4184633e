-- Which receivers get a garbled ballot that they expect, in one round. Stations are counted from 0. Bytes are laid out like a run table.
use Rattle.std.specs.Prelude.{ℕ, Bool, ◌&&◌, List, ltb, eqb, length, if◌then◌else◌}
use Rattle.line.specs.Line.{has_round}
use Rattle.line.specs.Ballot.{blank, silence}
use Rattle.line.specs.Marks.{marked}
use Rattle.broadcast.specs.Broadcast.{speaks}
use Rattle.broadcast.specs.Garbled.{garbled_ballots}
use Rattle.column.specs.Column.{column}
use Rattle.step.specs.declared.Part.{Part}
use Rattle.step.specs.declared.Part.TheVariants.{Sender, First, Second, King}
use Rattle.step.specs.Part.{of_part}

-- who is looked at: the senders' bits are as those of marks, and only such as should speak are expected
unfoldable pub from : ℕ → ℕ → Part → ℕ → Bool
from senders sender p i = marked senders i && speaks sender (of_part p) i

-- 1 where one of the first m stations has a garbled ballot for j
unfoldable pub some_of : ℕ → ℕ → ℕ → Part → List ℕ → ℕ → ℕ → ℕ → ℕ
some_of n senders sender p bytes start m j =
    if ltb 0 (garbled_ballots m (from senders sender p) (of_part p) (column bytes start n j)) then 1 else 0

-- of all n, 0 where the bytes have no such round
unfoldable pub found : ℕ → ℕ → ℕ → Part → List ℕ → ℕ → ℕ → ℕ
found n senders sender p bytes start j = if has_round n start (length bytes) then some_of n senders sender p bytes start n j else 0

-- ---- for private functions

-- what is above it, but for silence, is garbled
unfoldable pub above : Part → ℕ
above Sender = 1
above First = 1
above Second = blank
above (King p) = 1

-- silence as 0, which is never above
unfoldable pub but_silence : ℕ → ℕ
but_silence b = if eqb b silence then 0 else b
