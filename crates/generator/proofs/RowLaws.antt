-- Laws of a row, a sender's n bytes in a round, and of one row more. Assumes nothing.
use Rattle.std.specs.Prelude.{if◌then◌else◌}
use Prim.Native.Nat.{ℕ, zero, suc, ◌+◌, ◌-◌, ◌*◌, ◌/◌, ◌%◌, ◌≤◌, ◌<◌}
use mathlib.Core.Path.{◌≡◌, refl, sym, ap, ◌∙◌}
use mathlib.Core.Bool.{Bool, true, false}
use mathlib.Core.Logic.{◌⊎◌, inl, inr}
use mathlib.Core.List.{List}
use native.Mathlib.Omega.{arith}
use native.Mathlib.Numerals.{add-one}
use native.Mathlib.Nat.{add-zero, div-add-mod', le_refl, mul-le-mul_right, zero-mul, mod-lt, mod-eq_of_lt, mod_self, suc-mod}
use lib.Arith.{digits_div}
use lib.ListN.{length, get_or, set, take, drop, length-drop}
use lib.Seq.{length-take-le}
use Rattle.line.specs.Count.{count}
use Rattle.line.specs.Marks.{marked}
use Rattle.line.specs.Ballot.{silence}
use Rattle.line.specs.Writing.{Each}
use Rattle.line.proofs.CountLaws.{le_or_lt, count_same, count_none}
use Rattle.line.proofs.LineLaws.{next_row}
use Rattle.line.proofs.WritingLaws.{each_turn, spliced, spliced_length, spliced_before, spliced_there}
use Rattle.selection.specs.Places.{from_at}
use Rattle.selection.proofs.CountingLaws.{count_on}
use Rattle.xorshift.specs.State.{next, state_after}
use Rattle.xorshift.proofs.StateLaws.{runs_on}
use Rattle.generator.specs.Tables.{ballot, has_step, steps_before, byte_at}
use Rattle.generator.specs.Loops.{drawn_byte, row_byte, Drawn}

-- ---- a row

-- a step more, and the byte after it
pub drawn_turn : (state m s r v : ℕ) (row : List ℕ) → s ≡ state_after m state → r ≡ next s → v ≡ ballot r → m < length row → Each m row (drawn_byte state)
    → (r ≡ state_after (m + 1) state) × Each (m + 1) (set row m v) (drawn_byte state)
unfolding state_after drawn_byte
drawn_turn state m s r v row e q w h each =
    let one : r ≡ state_after (suc m) state = q ∙ ap next e in
    (one ∙ sym (ap (λ (k : ℕ). state_after k state) (add-one m)), each_turn row (drawn_byte state) m v h each (w ∙ ap ballot one))

-- by whether its sender is marked
module _ (bad : Bool) (n s : ℕ) (row : List ℕ) where
  pub row_is_drawn : (r : ℕ) → bad ≡ true → (r ≡ state_after n s) × Each n row (drawn_byte s)
      → (r ≡ (if bad then state_after n s else s)) × Each n row (row_byte bad s)
  unfolding Each row_byte
  row_is_drawn r e (q, each) = rw e (q, each)

  pub row_is_silent : bad ≡ false → Each n row (λ j. silence) → (s ≡ (if bad then state_after n s else s)) × Each n row (row_byte bad s)
  unfolding Each row_byte
  row_is_silent e each = rw e (refl, each)

-- ---- whole rows

-- row k of a table, which starts at k * n
module _ (n size k : ℕ) (more : k < size / n) where
  row_fits : k * n + n ≤ size
  row_fits = omega (arith, next_row k n, mul-le-mul_right n more, div-add-mod' size n)

  -- the sender of each of its bytes
  row_from : (j : ℕ) → j < n → from_at n (k * n + j) ≡ k % n
  unfolding from_at
  row_from j h = ap (λ (i : ℕ). i % n) (digits_div k h)

-- ---- the steps of a row

-- where everybody passes all are counted
count_everybody : (m : ℕ) (q : ℕ → Bool) → ((k : ℕ) → k < m → q k ≡ true) → count m q ≡ m
unfolding count
count_everybody zero q h = refl
count_everybody (suc m) q h = rw (h m (omega arith), count_everybody m q (λ k l. h k (omega arith))) (omega arith)

module _ (n marks at : ℕ) (bad : Bool) (same : (j : ℕ) → j < n → has_step n marks (at + j) ≡ bad) where
  -- a marked sender's places have a step each
  steps_marked : bad ≡ true → (j : ℕ) → j ≤ n → steps_before n marks (at + j) ≡ steps_before n marks at + j
  unfolding steps_before
  steps_marked e j l =
      count_on at j (has_step n marks)
      ∙ ap (λ (k : ℕ). count at (has_step n marks) + k) (count_everybody j (λ i. has_step n marks (at + i)) (λ k h. same k (omega arith) ∙ e))

  -- another's none
  steps_unmarked : bad ≡ false → (j : ℕ) → j ≤ n → steps_before n marks (at + j) ≡ steps_before n marks at
  unfolding steps_before
  steps_unmarked e j l =
      count_on at j (has_step n marks)
      ∙ ap (λ (k : ℕ). count at (has_step n marks) + k) (count_same j (λ i. has_step n marks (at + i)) (λ i. false) (λ k h. same k (omega arith) ∙ e) ∙ count_none j)
      ∙ add-zero (count at (has_step n marks))

  -- the state after the row
  pub row_state : (state s : ℕ) → s ≡ state_after (steps_before n marks at) state
      → (if bad then state_after n s else s) ≡ state_after (steps_before n marks (at + n)) state
  row_state state s e = go bad refl
    where
      go : (b : Bool) → bad ≡ b → (if b then state_after n s else s) ≡ state_after (steps_before n marks (at + n)) state
      go true q = rw (steps_marked q n (le_refl n), e) (sym (runs_on (steps_before n marks at) n state))
      go false q = rw (steps_unmarked q n (le_refl n)) e

  -- its bytes
  pub row_bytes : (state s j : ℕ) → s ≡ state_after (steps_before n marks at) state → j < n → row_byte bad s j ≡ byte_at n marks state (at + j)
  unfolding row_byte byte_at drawn_byte
  row_bytes state s j e l = rw (same j l) (go bad refl)
    where
      go : (b : Bool) → bad ≡ b
          → (if b then ballot (state_after (suc j) s) else silence) ≡ (if b then ballot (state_after (suc (steps_before n marks (at + j))) state) else silence)
      go true q =
          let m : suc (steps_before n marks (at + j)) ≡ steps_before n marks at + suc j = omega (arith, steps_marked q j (omega arith)) in
          rw (e, m, runs_on (steps_before n marks at) (suc j) state)
      go false q = refl

-- ---- one row more

module _ (n marks state k : ℕ) (table₀ : List ℕ) (more : k < length table₀ / n) where
  has_steps : (j : ℕ) → j < n → has_step n marks (k * n + j) ≡ marked marks (k % n)
  unfolding has_step
  has_steps j h = ap (marked marks) (row_from n (length table₀) k more j h)

  module _ (table row : List ℕ) (s s₁ : ℕ) (bad : Bool) (b : bad ≡ marked marks (k % n)) (P : Drawn n marks state (k * n) table₀ table s) where
    room : k * n + n ≤ length table
    room = omega (arith, P.size, row_fits n (length table₀) k more)

    same : (j : ℕ) → j < n → has_step n marks (k * n + j) ≡ bad
    same j h = has_steps j h ∙ sym b

    its_bytes : length row ≡ n → Each n row (row_byte bad s) → (i : ℕ) → i < k * n + n → (k * n ≤ i) ⊎ (i < k * n) → get_or (spliced table row (k * n) n) i 0 ≡ byte_at n marks state i
    unfolding Each
    its_bytes long each i l (inl h) =
        let j : k * n + (i - k * n) ≡ i = omega arith in
        let u : i - k * n < n = omega arith in
        rw j at (spliced_there table row (k * n) n room long (i - k * n) u ∙ each (i - k * n) u ∙ row_bytes n marks (k * n) bad same state s (i - k * n) P.state_is u)
    its_bytes long each i l (inr h) = spliced_before table row (k * n) n room long i h ∙ P.bytes_are i h

    row_more : length row ≡ n → (s₁ ≡ (if bad then state_after n s else s)) × Each n row (row_byte bad s) → Drawn n marks state ((k + 1) * n) table₀ (spliced table row (k * n) n) s₁
    row_more long (e, each) =
        rw (next_row k n) (record {
          size = spliced_length table row (k * n) n room long ∙ P.size;
          bytes_are = λ i l. its_bytes long each i l (le_or_lt (k * n) i);
          state_is = e ∙ row_state n marks (k * n) bad same state s P.state_is;
        })

    -- as the code lends the row: m bytes from `at` on
    pub drawn_more : (at m : ℕ) → at ≡ k * n → m ≡ n → length row ≡ length (take m (drop at table))
        → (s₁ ≡ (if bad then state_after (length (take m (drop at table))) s else s)) × Each (length (take m (drop at table))) row (row_byte bad s)
        → Drawn n marks state ((k + 1) * n) table₀ (spliced table row at m) s₁
    drawn_more at m a z size e =
        let lent : length (take n (drop (k * n) table)) ≡ n = length-take-le n (drop (k * n) table) (rw length-drop (omega (arith, room))) in
        rw (a, z) (row_more (rw (a, z, lent) at size) (rw (a, z, lent) at e))

-- the next row's sender, and after the last one the first again
module _ (n k from : ℕ) (some : 1 ≤ n) (e : from ≡ k % n) where
  next_row_is : (k + 1) % n ≡ suc from % n
  next_row_is = rw (e, add-one k) (suc-mod k n)

  pub from_next : from + 1 < n → from + 1 ≡ (k + 1) % n
  from_next l = add-one from ∙ sym (next_row_is ∙ mod-eq_of_lt (omega (arith, l)))

  pub from_first : n ≤ from + 1 → 0 ≡ (k + 1) % n
  from_first l =
      let below : from < n = rw e (mod-lt k some) in
      let z : suc from ≡ n = omega arith in
      sym (next_row_is ∙ rw z (mod_self n))

-- none yet
pub drawn_none : (n marks state : ℕ) (table : List ℕ) → Drawn n marks state (0 * n) table table state
unfolding steps_before count state_after
drawn_none n marks state table = rw (zero-mul n) (record { size = refl; bytes_are = λ k l. absurd (omega arith); state_is = refl })
