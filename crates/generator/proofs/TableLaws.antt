-- Laws of the generated tables: their bytes, and that the state runs on from one bit's table to the next. Assumes nothing.
use Rattle.std.specs.Prelude.{if◌then◌else◌}
use Prim.Native.Nat.{ℕ, zero, suc, ◌+◌, ◌*◌, ◌/◌, ◌%◌, ◌≤◌, ◌<◌}
use mathlib.Core.Path.{◌≡◌, refl, sym, ap, ◌∙◌}
use mathlib.Core.Bool.{Bool, true, false}
use mathlib.Core.Logic.{◌⊎◌, inl, inr}
use mathlib.Core.List.{List}
use native.Mathlib.Omega.{arith}
use native.Mathlib.Nat.{mul_assoc, mul-zero, zero-mul, add_comm, add-mul-div_right, add-mul-mod_self_right}
use lib.Dec.{eqb}
use lib.ListN.{length, get_or}
use lib.Seq.{ext_get_or}
use borrow.Author.Tests.{eqb-false, eq-eqb, ne_eqb, lt-ltb}
use Rattle.line.specs.Count.{count}
use Rattle.line.specs.Line.{rounds, table_length, place}
use Rattle.line.specs.Marks.{marked}
use Rattle.line.specs.Width.{bits, tables_length, part_of}
use Rattle.line.proofs.CountLaws.{if_true, if_false, count_same}
use Rattle.line.proofs.LineLaws.{next_row, row_within, place_below}
use Rattle.line.proofs.WidthLaws.{part_at, part_size}
use Rattle.broadcast.proofs.BytesLaws.{length_tabulate, get_d_tabulate}
use Rattle.header.specs.declared.Header.{Header}
use Rattle.selection.specs.Places.{from_at}
use Rattle.selection.proofs.CountingLaws.{count_on}
use Rattle.selection.proofs.PlaceLaws.{from_told}
use Rattle.xorshift.specs.State.{state_after}
use Rattle.xorshift.proofs.StateLaws.{runs_on}
use Rattle.generator.specs.Tables.{ballot, has_step, steps_before, byte_at, noise, generated, bit_state}
use Rattle.generator.specs.Promise.{whole_rows}
use Rattle.generator.specs.Theorems.{StepsCounted, Byte}
use Rattle.generator.specs.Loops.{Drawn}

-- ---- a ballot

pub ballot_of_four : (state : ℕ) → (ballot state ≤ 2) ⊎ (ballot state ≡ 255)
unfolding ballot
ballot_of_four state = go (eqb (state % 4) 3) refl
  where
    go : (b : Bool) → eqb (state % 4) 3 ≡ b → ((if b then 255 else state % 4) ≤ 2) ⊎ ((if b then 255 else state % 4) ≡ 255)
    go true e = inr refl
    go false e =
        let ne = eqb-false (state % 4) 3 e in
        let l : state % 4 < 4 = omega arith in
        inl (small (state % 4) l ne)
      where
        small : (x : ℕ) → x < 4 → (x ≡ 3 → ⊥) → x ≤ 2
        small zero l ne = omega arith
        small (suc zero) l ne = omega arith
        small (suc (suc zero)) l ne = omega arith
        small (suc (suc (suc zero))) l ne = absurd (ne refl)
        small (suc (suc (suc (suc x)))) l ne = absurd (omega arith)

-- ---- the steps before a place

pub steps_counted : (n marks p : ℕ) → StepsCounted n marks p
unfolding steps_before has_step count
steps_counted n marks p = record { first = refl; marked_more = λ e. rw e (omega arith); unmarked_same = λ e. rw e (omega arith) }

-- ---- so many bytes

pub noise_length : (n marks seed size : ℕ) → length (noise n marks seed size) ≡ size
unfolding noise
noise_length n marks seed size = length_tabulate size (byte_at n marks seed)

pub noise_at : (n marks seed size k : ℕ) → k < size → get_or (noise n marks seed size) k 0 ≡ byte_at n marks seed k
unfolding noise
noise_at n marks seed size k h = get_d_tabulate size (byte_at n marks seed) k h

-- a table that is drawn to its end
pub drawn_all : (n marks state : ℕ) (table₀ table : List ℕ) (s : ℕ) → Drawn n marks state (length table₀) table₀ table s → table ≡ noise n marks state (length table₀)
drawn_all n marks state table₀ table s P =
    ext_get_or 0 table (noise n marks state (length table₀)) (P.size ∙ sym (noise_length n marks state (length table₀)))
    (λ k h. let l : k < length table₀ = rw P.size at h in P.bytes_are k l ∙ sym (noise_at n marks state (length table₀) k l))

-- ---- whole rows or not

module _ (n size : ℕ) where
  pub rows_whole : 1 ≤ n → size % n ≡ 0 → whole_rows n size ≡ true
  unfolding whole_rows
  rows_whole some e = rw (lt-ltb 0 n some, eq-eqb (size % n) 0 e)

  pub rows_none : (n ≡ 0) ⊎ ((n ≡ 0 → ⊥) × (size % n ≡ 0 → ⊥)) → whole_rows n size ≡ false
  unfolding whole_rows
  rows_none (inl e) = rw e
  rows_none (inr (some, e)) = rw (lt-ltb 0 n (omega arith), ne_eqb (size % n) 0 e)

-- ---- the tables of all bits

pub generated_length : (h : Header) (seed : ℕ) → length (generated h seed) ≡ tables_length h.line.n h.line.t h.w
unfolding generated
generated_length h seed = noise_length h.line.n h.marks seed _

pub generated_at : (h : Header) (seed k : ℕ) → k < tables_length h.line.n h.line.t h.w → get_or (generated h seed) k 0 ≡ byte_at h.line.n h.marks seed k
unfolding generated
generated_at h seed k l = noise_at h.line.n h.marks seed _ k l

-- a place whose sender is marked, and one whose sender isn't
pub byte_drawn : (n marks seed p : ℕ) → marked marks (from_at n p) ≡ true → byte_at n marks seed p ≡ ballot (state_after (suc (steps_before n marks p)) seed)
unfolding byte_at has_step
byte_drawn n marks seed p e = if_true _ _ e

pub byte_silent : (n marks seed p : ℕ) → marked marks (from_at n p) ≡ false → byte_at n marks seed p ≡ 255
unfolding byte_at has_step
byte_silent n marks seed p e = if_false _ _ e

-- a byte by its bit, round, sender and receiver
pub generated_byte : (h : Header) (seed b r i j : ℕ) → b < bits h.w → 1 ≤ r → r ≤ rounds h.line.t → i < h.line.n → j < h.line.n → Byte h seed b r i j
generated_byte h seed b r i j hb hr hR hi hj =
    let size = table_length h.line.n h.line.t in
    let p = b * size + place h.line.n r i j in
    let inside : p < bits h.w * size = omega (arith, place_below h.line.n r i j hr hi hj (rounds h.line.t) hR, row_within b size (bits h.w) hb) in
    let sender = from_told h.line.n h.line.t b r i j hr hR hi hj in
    record {
      at = p;
      at_is = refl;
      drawn = λ e. generated_at h seed p inside ∙ byte_drawn h.line.n h.marks seed p (rw sender e);
      silent = λ e. generated_at h seed p inside ∙ byte_silent h.line.n h.marks seed p (rw sender e);
    }

-- ---- the state runs on

-- rounds further the same senders come again
from_again : (n m k : ℕ) → 1 ≤ n → from_at n (m * n * n + k) ≡ from_at n k
unfolding from_at
from_again n m k some =
    let e : (m * n * n + k) / n ≡ k / n + m * n = ap (λ (x : ℕ). x / n) (add_comm (m * n * n) k) ∙ add-mul-div_right k (m * n) some in
    rw e (add-mul-mod_self_right (k / n) m n)

module _ (n marks m : ℕ) (some : 1 ≤ n) where
  step_again : (k : ℕ) → has_step n marks (m * n * n + k) ≡ has_step n marks k
  unfolding has_step
  step_again k = ap (marked marks) (from_again n m k some)

  steps_again : (k : ℕ) → steps_before n marks (m * n * n + k) ≡ steps_before n marks (m * n * n) + steps_before n marks k
  unfolding steps_before
  steps_again k =
      count_on (m * n * n) k (has_step n marks)
      ∙ ap (λ (c : ℕ). count (m * n * n) (has_step n marks) + c) (count_same k (λ j. has_step n marks (m * n * n + j)) (has_step n marks) (λ j l. step_again j))

  byte_again : (seed k : ℕ) → byte_at n marks seed (m * n * n + k) ≡ byte_at n marks (state_after (steps_before n marks (m * n * n)) seed) k
  unfolding byte_at
  byte_again seed k =
      let e : suc (steps_before n marks (m * n * n + k)) ≡ steps_before n marks (m * n * n) + suc (steps_before n marks k) = omega (arith, steps_again k) in
      rw (step_again k, e, runs_on (steps_before n marks (m * n * n)) (suc (steps_before n marks k)) seed)

bit_start : (n t b : ℕ) → b * table_length n t ≡ b * rounds t * n * n
bit_start n t b = rw (← mul_assoc b (rounds t * n) n, ← mul_assoc b (rounds t) n)

some_stations : (n t k : ℕ) → k < table_length n t → 1 ≤ n
some_stations zero t k l = absurd (omega (arith, mul-zero (rounds t * 0)))
some_stations (suc n) t k l = omega arith

pub bits_run_on : (h : Header) (seed b : ℕ) → b < bits h.w
    → part_of (table_length h.line.n h.line.t) (generated h seed) b ≡ noise h.line.n h.marks (bit_state h seed b) (table_length h.line.n h.line.t)
unfolding bit_state
bits_run_on h seed b l =
    let size = table_length h.line.n h.line.t in
    let whole = part_size size (generated h seed) b (bits h.w) l (generated_length h seed) in
    ext_get_or 0 _ _ (whole ∙ sym (noise_length h.line.n h.marks (bit_state h seed b) size))
    (λ k q.
    let s : k < size = rw whole at q in
    part_at size (generated h seed) b k s
    ∙ generated_at h seed (b * size + k) (omega (arith, s, row_within b size (bits h.w) l))
    ∙ rw (bit_start h.line.n h.line.t b) (byte_again h.line.n h.marks (b * rounds h.line.t) (some_stations h.line.n h.line.t k s) seed k)
    ∙ sym (noise_at h.line.n h.marks (bit_state h seed b) size k s))

-- and goes on by one bit
pub state_next_bit : (h : Header) (seed b : ℕ) → 1 ≤ h.line.n
    → state_after (steps_before h.line.n h.marks (table_length h.line.n h.line.t)) (bit_state h seed b) ≡ bit_state h seed (b + 1)
unfolding bit_state
state_next_bit h seed b some =
    let size = table_length h.line.n h.line.t in
    let e : (b + 1) * size ≡ b * size + size = next_row b size in
    sym (ap (λ (k : ℕ). state_after (steps_before h.line.n h.marks k) seed) e
    ∙ ap (λ (k : ℕ). state_after k seed) (rw (bit_start h.line.n h.line.t b) (steps_again h.line.n h.marks (b * rounds h.line.t) some size))
    ∙ runs_on (steps_before h.line.n h.marks (b * size)) (steps_before h.line.n h.marks size) seed)

pub state_first_bit : (h : Header) (seed : ℕ) → seed ≡ bit_state h seed 0
unfolding bit_state steps_before count state_after
state_first_bit h seed = rw (zero-mul (table_length h.line.n h.line.t))
