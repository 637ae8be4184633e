-- The ballot byte and its readings (document 01, "Names", "The graded exchange" and "The broadcast"; document 02, requests 2 and 4).
-- Each kind of round has a reading of its own, which says what a received byte was, and a value that its steps make of it.
use Rattle.std.specs.Prelude.{ℕ, Bool, true, false, leb, eqb, if◌then◌else◌}
use Rattle.line.specs.declared.ballot.Ballot.{Ballot}
use Rattle.line.specs.declared.ballot.Ballot.TheVariants.{Bit, Blank, Silence, Garbled}

-- "Ballot byte: 0, 1, 2 (blank), 255 (silence). Every other byte is garbled."
abbrev pub blank : ℕ
blank = 2

abbrev pub silence : ℕ
silence = 255

-- ---- which it was (request 4): "A byte is garbled if it is not 255 and its round has no meaning for it"

-- in a round that has a meaning for 0 and 1 alone: "blank is garbled outside the second round of an exchange."
unfoldable pub bit_round : ℕ → Ballot
bit_round b = if leb b 1 then Bit b else (if eqb b silence then Silence else Garbled)

-- in one that has a meaning for blank too
unfoldable pub blank_round : ℕ → Ballot
blank_round b = if eqb b blank then Blank else bit_round b

-- round 1 of the broadcast, from the sender
unfoldable pub read_sender : ℕ → Ballot
read_sender b = bit_round b

-- the first round of an exchange
unfoldable pub read_first : ℕ → Ballot
read_first b = bit_round b

-- the second
unfoldable pub read_second : ℕ → Ballot
read_second b = blank_round b

-- the last round of a phase, from the king
unfoldable pub read_king : ℕ → Ballot
read_king b = bit_round b

abbrev pub is_garbled : Ballot → Bool
is_garbled (Bit b) = false
is_garbled Blank = false
is_garbled Silence = false
is_garbled Garbled = true

-- ---- what the steps make of it

-- the bit, and d for what is none
abbrev pub bit_or : ℕ → Ballot → ℕ
bit_or d (Bit b) = b
bit_or d Blank = d
bit_or d Silence = d
bit_or d Garbled = d

-- the graded exchange, step 1 (request 2): "In the first round of an exchange a byte other than 0 or 1 now counts for neither value": blank, which is
-- neither, stands for every such byte. The published default no longer holds here
unfoldable pub first_value : ℕ → ℕ
first_value b = bit_or blank (read_first b)

-- the graded exchange, step 3: "A received byte other than 0 or 1 is read as blank."
unfoldable pub second_value : ℕ → ℕ
second_value b = bit_or blank (read_second b)

-- the broadcast, round 1: "a byte other than 0 or 1 is read as 0" (request 2: "The sender's round keeps its default.")
unfoldable pub sender_value : ℕ → ℕ
sender_value b = bit_or 0 (read_sender b)

-- the broadcast, the king's ballot at a grade 0 station with its own y (request 2): "a king's unreadable ballot leaves a grade 0 station with its own
-- y": every byte other than 0 or 1, blank and silence too. The published default no longer holds here
unfoldable pub king_value : ℕ → Ballot → ℕ
king_value y heard = bit_or y heard
