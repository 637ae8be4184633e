-- The broadcast with extended validity (document 01, "The broadcast"; document 02, request 2; source 001, Protocol 2 with document 01's kings and phases).
use Rattle.std.specs.Prelude.{ℕ, zero, suc, ◌+◌, ◌-◌, ◌*◌, ◌/◌, ◌%◌, Bool, true, eqb, if◌then◌else◌}
use Rattle.line.specs.Ballot.{silence, sender_value, read_king, king_value}
use Rattle.line.specs.declared.ballot.Ballot.{Ballot}
use Rattle.broadcast.specs.Exchange.{Setting, sends, z, y, grade, flag_of}

-- ---- the phases

-- "With grade 0 a station's new x is the king's ballot [..]; with grade 1 or 2 it is the station's own y.": y stands in for one that can't be
-- read
unfoldable pub obey : ℕ → ℕ → Ballot → ℕ
obey g y heard = if eqb g 0 then king_value y heard else y

-- "Phase p, from 1 to t+1": how many there are
unfoldable pub phases : ℕ → ℕ
phases t = t + 1

-- the first round of the exchange that p phases precede: "Phase p [..] has rounds 3p−1 and 3p for one graded exchange", and this is phase
-- p + 1. "Rounds 3t+5 and 3t+6: one more graded exchange", which all phases precede
unfoldable pub first_round : ℕ → ℕ
first_round p = 3 * (p + 1) - 1

-- a broadcast of a value by a sender
module _ (S : Setting) (sender_from_0 value : ℕ) where
  -- each station's x after round 1 and p phases. Round 1: "Every station takes what it reads as x". Then "round 3p+1, in which king p sends
  -- its y": the king of phase p + 1, the document's station p + 1, is station p here
  unfoldable pub x_after : ℕ → ℕ → ℕ
  x_after zero j = sender_value (sends S 1 sender_from_0 j value)
  x_after (suc p) j =
      let r = first_round p in
      let x = x_after p in
      obey (grade S r x j) (y S r x j) (read_king (sends S (r + 2) p j (y S r x p)))

  -- what the exchange that p phases precede gives each station
  unfoldable pub z_after : ℕ → ℕ → ℕ
  z_after p = z S (first_round p) (x_after p)

  unfoldable pub y_after : ℕ → ℕ → ℕ
  y_after p = y S (first_round p) (x_after p)

  unfoldable pub grade_after : ℕ → ℕ → ℕ
  grade_after p = grade S (first_round p) (x_after p)

  -- ---- outcomes: "one more graded exchange gives value and grade. The flag is 1 when the grade is below 2."
  unfoldable pub value_of : ℕ → ℕ
  value_of j = y_after (phases S.t) j

  unfoldable pub final_grade : ℕ → ℕ
  final_grade j = grade_after (phases S.t) j

  unfoldable pub final_flag : ℕ → ℕ
  final_flag j = flag_of (final_grade j)

-- ---- what is sent, round by round

-- which part of a broadcast a round is
pub data Part : Type 0 where
  -- round 1
  from_sender : Part
  -- the first and the second round of the exchange that p phases precede
  first_of : ℕ → Part
  second_of : ℕ → Part
  -- the king's round of the phase that p phases precede
  from_king : ℕ → Part

-- Phase p has rounds 3p−1, 3p and 3p+1, and p − 1 phases precede it.
unfoldable pub part : ℕ → Part
part r =
    if eqb r 1 then from_sender
    else (if eqb (r % 3) 2 then first_of (r / 3)
    else (if eqb (r % 3) 0 then second_of (r / 3 - 1)
    else from_king (r / 3 - 1)))

-- who should speak
unfoldable pub speaks : ℕ → Part → ℕ → Bool
speaks sender_from_0 from_sender i = eqb i sender_from_0
speaks sender_from_0 (first_of p) i = true
speaks sender_from_0 (second_of p) i = true
speaks sender_from_0 (from_king p) i = eqb i p

module _ (S : Setting) (sender_from_0 value : ℕ) where
  -- the ballot of a station that speaks
  unfoldable pub spoken : Part → ℕ → ℕ
  spoken from_sender i = value
  spoken (first_of p) i = x_after S sender_from_0 value p i
  spoken (second_of p) i = z_after S sender_from_0 value p i
  spoken (from_king p) i = y_after S sender_from_0 value p i

  -- "what the steps make it send, 255 in a round where it doesn't speak"
  unfoldable pub said : ℕ → ℕ → ℕ
  said r i = if speaks sender_from_0 (part r) i then spoken (part r) i else silence

  -- what i sends to j in round r: "A bad station's bytes are copied from the table unread"
  unfoldable pub sent : ℕ → ℕ → ℕ → ℕ
  sent r i j = sends S r i j (said r i)
