-- Laws of a generated run that is rehearsed one bit after another in one table and one log. Assumes nothing.
use Prim.Native.Nat.{ℕ, ◌+◌, ◌-◌, ◌*◌, ◌≤◌, ◌<◌}
use mathlib.Core.Path.{◌≡◌, sym, ap, ◌∙◌}
use mathlib.Core.Bool.{true}
use mathlib.Core.List.{List}
use native.Mathlib.Omega.{arith}
use native.Mathlib.Nat.{mul-mod_left}
use lib.ListN.{length}
use Rattle.line.specs.Line.{rounds, table_length, outcomes_length}
use Rattle.line.specs.Width.{bits, bit_of, part_of}
use Rattle.line.proofs.WidthLaws.{bits_some, part_size}
use Rattle.refusal.specs.Cause.{Verdict}
use Rattle.number.specs.Numbers.{bit_run, number_outcomes}
use Rattle.rehearsal.specs.Promise.{run_of}
use Rattle.recipe.specs.Promise.{RehearsedBit}
use Rattle.recipe.specs.Loops.{InTurn}
use Rattle.recipe.proofs.RunLaws.{none_in_turn, one_more_in_turn}
use Rattle.header.specs.declared.Header.{Header}
use Rattle.reader.specs.Loops.{SoundHeader}
use Rattle.listing_lines.specs.Lines.{run}
use Rattle.generator.specs.Tables.{generated, bit_state}
use Rattle.generator.specs.Promise.{whole_rows, Fills}
use Rattle.generator.proofs.TableLaws.{rows_whole, generated_length, bits_run_on, state_next_bit, state_first_bit}
use Rattle.seeded.specs.Promise.{seed_run, last_table, last_log}
use Rattle.seeded.specs.Loops.{BitsRun, Ran}

-- one bit's table is whole rows
table_rows : (n t : ℕ) → 1 ≤ n → whole_rows n (table_length n t) ≡ true
table_rows n t some = rows_whole n (table_length n t) some (mul-mod_left (rounds t * n) n)

module _ (h : Header) (seed : ℕ) (table bytes results : List ℕ) where
  -- before the first
  pub bits_begin : SoundHeader h → length table ≡ table_length h.line.n h.line.t → length bytes ≡ table_length h.line.n h.line.t
      → length results ≡ outcomes_length h.line.n → BitsRun h seed 0 seed table bytes results
  unfolding seed_run
  bits_begin sound a b c = record {
    sound = sound;
    state_is = state_first_bit h seed;
    table_whole = a;
    table_is = λ l. absurd (omega arith);
    in_turn = none_in_turn (run h (generated h seed)) bytes results b c;
  }

  -- a bit more
  module _ (b state : ℕ) (P : BitsRun h seed b state table bytes results) (more : b < bits h.w)
      (table₁ bytes₁ results₁ : List ℕ) (left : ℕ) (F : Fills h.line.n h.marks state table table₁ left) where
    whole : whole_rows h.line.n (length table) ≡ true
    whole = rw P.table_whole (table_rows h.line.n h.line.t P.sound.some)

    -- its table
    its_table : table₁ ≡ part_of (table_length h.line.n h.line.t) (generated h seed) b
    its_table = F.table_is ∙ rw (whole, P.table_whole, P.state_is) (sym (bits_run_on h seed b more))

    -- the state that it leaves
    its_state : left ≡ bit_state h seed (b + 1)
    its_state = F.state_is ∙ rw (whole, P.table_whole, P.state_is) (state_next_bit h seed b P.sound.some)

    -- its run
    module _ {answer : Verdict} (R : RehearsedBit b (run_of h.line.n h.line.t h.line.upper h.sender (bit_of h.value b) h.marks table₁) bytes bytes₁ results results₁ answer) where
      its_run : RehearsedBit b (bit_run (run h (generated h seed)) b) bytes bytes₁ results results₁ answer
      unfolding bit_run
      its_run = rw its_table at R

      its_turn : InTurn (seed_run h seed) (b + 1) bytes₁ results₁
      unfolding seed_run
      its_turn =
          one_more_in_turn (run h (generated h seed)) P.sound (generated_length h seed) b more bytes results bytes₁ results₁ answer P.in_turn its_run

      pub bit_more : BitsRun h seed (b + 1) left table₁ bytes₁ results₁
      bit_more =
          let back : b + 1 - 1 ≡ b = omega arith in
          record {
            sound = P.sound;
            state_is = its_state;
            table_whole = ap length its_table ∙ part_size (table_length h.line.n h.line.t) (generated h seed) b (bits h.w) more (generated_length h seed);
            table_is = λ _. rw back its_table;
            in_turn = its_turn;
          }

  -- after the last
  pub bits_end : (state : ℕ) → BitsRun h seed (bits h.w) state table bytes results → Ran h seed table bytes results
  unfolding last_table last_log number_outcomes seed_run
  bits_end state P =
      let some = bits_some h.w in
      record { table_is = P.table_is some; log_is = P.in_turn.log_is some; outcomes_are = P.in_turn.outcomes_are some }
