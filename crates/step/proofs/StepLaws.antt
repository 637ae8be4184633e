-- Laws of the parts and of the count. Assumes nothing.
use Prim.Native.Nat.{ℕ, ◌+◌, ◌<◌}
use mathlib.Core.Path.{◌≡◌, refl}
use mathlib.Core.Bool.{Bool, true, false, ◌&&◌}
use lib.Dec.{ltb}
use borrow.Author.Tests.{lt-ltb}
use Rattle.std.specs.Prelude.{if◌then◌else◌}
use Rattle.broadcast.specs.Exchange.{Row}
use Rattle.broadcast.specs.Broadcast.{Part, from_sender, first_of, second_of, from_king, speaks}
use Rattle.broadcast.specs.Garbled.{reading, garbled_ballots, some_garbled}
use Rattle.broadcast.specs.Station.{Setup, State, held, told, moved, next_count, taken}
use Rattle.step.specs.Part.{as_part, of_part}
use Rattle.step.specs.Noted.{noted}

-- what is told in an exchange doesn't go by which phase it is
pub told_as : (sender own value z : ℕ) (p : Part) → told sender own value z (of_part (as_part p)) ≡ told sender own value z p
unfolding told speaks held
told_as sender own value z from_sender = refl
told_as sender own value z (first_of p) = refl
told_as sender own value z (second_of p) = refl
told_as sender own value z (from_king p) = refl

-- nor who should speak, what a byte was, and what is taken
pub speaks_as : (sender i : ℕ) (p : Part) → speaks sender (of_part (as_part p)) i ≡ speaks sender p i
unfolding speaks
speaks_as sender i from_sender = refl
speaks_as sender i (first_of p) = refl
speaks_as sender i (second_of p) = refl
speaks_as sender i (from_king p) = refl

pub reading_as : (b : ℕ) (p : Part) → reading (of_part (as_part p)) b ≡ reading p b
unfolding reading
reading_as b from_sender = refl
reading_as b (first_of p) = refl
reading_as b (second_of p) = refl
reading_as b (from_king p) = refl

pub moved_as : (c : Setup) (s : State) (row : Row) (garbled : ℕ) (p : Part) → moved c s row garbled (of_part (as_part p)) ≡ moved c s row garbled p
unfolding moved
moved_as c s row garbled from_sender = refl
moved_as c s row garbled (first_of p) = refl
moved_as c s row garbled (second_of p) = refl
moved_as c s row garbled (from_king p) = refl

pub taken_as : (c : Setup) (s : State) (row : Row) (p : Part) → taken c s row (of_part (as_part p)) ≡ taken c s row p
unfolding taken moved next_count some_garbled garbled_ballots speaks reading
taken_as c s row from_sender = refl
taken_as c s row (first_of p) = refl
taken_as c s row (second_of p) = refl
taken_as c s row (from_king p) = refl

-- below 255 the count goes up wherever a ballot is garbled
pub noted_low : (garbled found : ℕ) → garbled < 255 → noted garbled found ≡ (if ltb 0 found then 1 else 0) + garbled
unfolding noted
noted_low garbled found h = go (ltb 0 found)
  where
    go : (b : Bool) → (if b && ltb garbled 255 then 1 else 0) + garbled ≡ (if b then 1 else 0) + garbled
    go true = rw (lt-ltb garbled 255 h)
    go false = refl
