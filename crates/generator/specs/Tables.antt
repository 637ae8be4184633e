-- The generated run tables (document 02, request 7), by their places. A place of the bits' tables, one after another, tells its sender (`from_at` of crate selection),
-- counted from 0.
use Rattle.std.specs.Prelude.{ℕ, suc, ◌*◌, ◌%◌, Bool, List, eqb, if◌then◌else◌}
use Rattle.line.specs.Count.{count}
use Rattle.line.specs.Line.{table_length}
use Rattle.line.specs.Marks.{marked}
use Rattle.line.specs.Width.{tables_length}
use Rattle.line.specs.Ballot.{silence}
use Rattle.broadcast.specs.Bytes.{tabulate}
use Rattle.header.specs.declared.Header.{Header}
use Rattle.selection.specs.Places.{from_at}
use Rattle.xorshift.specs.State.{state_after}

-- "the new state mod 4, with 255 for 3"
unfoldable pub ballot : ℕ → ℕ
ballot state = if eqb (state % 4) 3 then silence else state % 4

-- "For each round, marked sender and receiver": whether there is a step for the place p
unfoldable pub has_step : (n marks p : ℕ) → Bool
has_step n marks p = marked marks (from_at n p)

-- "in table order it steps once": how many steps come before the place p. "With several bits the state runs on from one bit's table to the next.": the places are
-- those of all bits' tables, one after another, and the steps are counted from the first one's start
unfoldable pub steps_before : (n marks p : ℕ) → ℕ
steps_before n marks p = count p (has_step n marks)

-- "it steps once and writes the new state mod 4, with 255 for 3. Other bytes are 255.": the byte at the place p
unfoldable pub byte_at : (n marks seed p : ℕ) → ℕ
byte_at n marks seed p = if has_step n marks p then ballot (state_after (suc (steps_before n marks p)) seed) else silence

-- so many bytes, from place 0 on
unfoldable pub noise : (n marks seed size : ℕ) → List ℕ
noise n marks seed size = tabulate size (byte_at n marks seed)

-- the tables of all bits
unfoldable pub generated : Header → ℕ → List ℕ
generated h seed = noise h.line.n h.marks seed (tables_length h.line.n h.line.t h.w)

-- the state that the tables of the bits below b leave, from which bit b's table comes (`BitsRunOn`)
unfoldable pub bit_state : Header → (seed b : ℕ) → ℕ
bit_state h seed b = state_after (steps_before h.line.n h.marks (b * table_length h.line.n h.line.t)) seed
