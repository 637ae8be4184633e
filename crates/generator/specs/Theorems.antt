-- What is shown of the generated tables. Each statement has a name here, and proofs/Theorems.antt has the law that proves it.
use Rattle.std.specs.Prelude.{ℕ, suc, ◌+◌, ◌*◌, ◌≤◌, ◌<◌, ◌≡◌, true, false, ◌⊎◌, length, get_or}
use Rattle.line.specs.Line.{rounds, table_length, place}
use Rattle.line.specs.Width.{bits, tables_length, part_of}
use Rattle.line.specs.Marks.{marked}
use Rattle.header.specs.declared.Header.{Header}
use Rattle.selection.specs.Places.{from_at}
use Rattle.xorshift.specs.State.{state_after}
use Rattle.generator.specs.Tables.{ballot, steps_before, noise, generated, bit_state}

-- a ballot of a state is 0, 1, 2 or 255
abbrev pub BallotOfFour : Type 0
BallotOfFour = (state : ℕ) → (ballot state ≤ 2) ⊎ (ballot state ≡ 255)

-- "in table order it steps once": none before the first place, one more past a place of a marked sender, and no more past another's, in all bits' tables
pub record StepsCounted (n marks p : ℕ) : Type 0 where
  pub first : steps_before n marks 0 ≡ 0
  pub marked_more : marked marks (from_at n p) ≡ true → steps_before n marks (suc p) ≡ suc (steps_before n marks p)
  pub unmarked_same : marked marks (from_at n p) ≡ false → steps_before n marks (suc p) ≡ steps_before n marks p

abbrev pub StepsCountedLaw : Type 0
StepsCountedLaw = (n marks p : ℕ) → StepsCounted n marks p

-- the byte of bit b for round r, from station i, to j, both counted from 0
pub record Byte (h : Header) (seed b r i j : ℕ) : Type 0 where
  pub at : ℕ
  pub at_is : at ≡ b * table_length h.line.n h.line.t + place h.line.n r i j
  -- a marked sender's is of the state after one step more than come before its place
  pub drawn : marked h.marks i ≡ true → get_or (generated h seed) at 0 ≡ ballot (state_after (suc (steps_before h.line.n h.marks at)) seed)
  -- "Other bytes are 255."
  pub silent : marked h.marks i ≡ false → get_or (generated h seed) at 0 ≡ 255

abbrev pub GeneratedBytes : Type 0
GeneratedBytes =
    (h : Header) (seed b r i j : ℕ) → b < bits h.w → 1 ≤ r → r ≤ rounds h.line.t → i < h.line.n → j < h.line.n → Byte h seed b r i j

abbrev pub GeneratedLength : Type 0
GeneratedLength = (h : Header) (seed : ℕ) → length (generated h seed) ≡ tables_length h.line.n h.line.t h.w

-- "With several bits the state runs on from one bit's table to the next.": bit b's table is what comes from the state that all bits below it leave
abbrev pub BitsRunOn : Type 0
BitsRunOn =
    (h : Header) (seed b : ℕ) → b < bits h.w
    → part_of (table_length h.line.n h.line.t) (generated h seed) b
    ≡ noise h.line.n h.marks (bit_state h seed b) (table_length h.line.n h.line.t)
