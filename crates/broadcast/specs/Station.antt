-- One station as an automaton (document 01, "One station"; document 02, request 4).
use Rattle.std.specs.Prelude.{ℕ, zero, suc, ◌+◌, List, eqb, get_or, if◌then◌else◌}
use Rattle.line.specs.Line.{rounds}
use Rattle.line.specs.Ballot.{blank, silence, sender_value, read_king}
use Rattle.broadcast.specs.Exchange.{Row, seconds, z_of, y_of, grade_of, flag_of}
use Rattle.broadcast.specs.Broadcast.{Part, from_sender, first_of, second_of, from_king, part, speaks, obey}
use Rattle.broadcast.specs.Garbled.{some_garbled}

-- "A station is opened with n, t, T, sender, own number and a value": what stays
pub record Setup : Type 0 where
  pub n : ℕ
  pub t : ℕ
  pub T : ℕ
  pub sender_from_0 : ℕ
  pub own_from_0 : ℕ

-- what changes: the current round; value, which is the value it was opened with, then x, and y from each exchange on; z; the grade; and of
-- the rounds before, how many had a garbled ballot
pub record State : Type 0 where
  pub round : ℕ
  pub value : ℕ
  pub z : ℕ
  pub grade : ℕ
  pub garbled : ℕ

-- newly opened with a value. z and grade are set before they are first used
unfoldable pub opened : ℕ → State
opened v = record { round = 1; value = v; z = blank; grade = 0; garbled = 0 }

-- what a station that speaks tells in each part: its value, in the second round of an exchange its z
unfoldable pub held : ℕ → ℕ → Part → ℕ
held value z from_sender = value
held value z (first_of p) = value
held value z (second_of p) = z
held value z (from_king p) = value

-- "It tells its ballot for the current round, 255 if it doesn't speak"
unfoldable pub told : ℕ → ℕ → ℕ → ℕ → Part → ℕ
told sender_from_0 own_from_0 value z p = if speaks sender_from_0 p own_from_0 then held value z p else silence

unfoldable pub ballot : Setup → State → ℕ
ballot c s = told c.sender_from_0 c.own_from_0 s.value s.z (part s.round)

-- "and takes a row of n received bytes to pass to the next round"
unfoldable pub next : State → ℕ → ℕ → ℕ → ℕ → State
next s value z grade garbled = record { round = s.round + 1; value = value; z = z; grade = grade; garbled = garbled }

-- with the count that it then has
unfoldable pub moved : Setup → State → Row → ℕ → Part → State
moved c s row garbled from_sender = next s (sender_value (row c.sender_from_0)) s.z s.grade garbled
moved c s row garbled (first_of p) = next s s.value (z_of c.n c.T s.value row) s.grade garbled
moved c s row garbled (second_of p) =
    let y = y_of c.n row in next s y s.z (grade_of c.n c.t c.T (seconds c.n y row)) garbled
moved c s row garbled (from_king p) = next s (obey s.grade s.value (read_king (row p))) s.z s.grade garbled

-- request 4: "A station counts the rounds in which at least one ballot it expected was garbled"
unfoldable pub next_count : Setup → ℕ → Row → Part → ℕ
next_count c garbled row p = (if some_garbled c.n c.sender_from_0 p row then 1 else 0) + garbled

unfoldable pub taken : Setup → State → Row → Part → State
taken c s row p = moved c s row (next_count c s.garbled row p) p

unfoldable pub advance : Setup → State → Row → State
advance c s row = taken c s row (part s.round)

-- "Asked for its result it answers either running, with the round, or done, with value, grade and flag. It is done after exactly R accepted rows."
-- With request 4 the count comes last
pub data Result : Type 0 where
  running : ℕ → Result
  done : ℕ → ℕ → ℕ → ℕ → Result

unfoldable pub result : Setup → State → Result
result c s = if eqb s.round (rounds c.t + 1) then done s.value s.grade (flag_of s.grade) s.garbled else running s.round

-- a list of bytes as a row
unfoldable pub at : List ℕ → Row
at bytes = λ i. get_or bytes i 0

-- the state of a station that was opened with v and has taken the rows of rounds 1 to m
unfoldable pub after : Setup → ℕ → (ℕ → List ℕ) → ℕ → State
after c v rows zero = opened v
after c v rows (suc m) = advance c (after c v rows m) (at (rows (suc m)))
