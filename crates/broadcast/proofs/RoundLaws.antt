-- The parts of a broadcast, and what a station does in them, by the tests that code makes of a round. Assumes nothing.
use Rattle.std.specs.Prelude.{if◌then◌else◌}
use Prim.Native.Nat.{ℕ, zero, suc, ◌+◌, ◌-◌, ◌/◌, ◌%◌, ◌≤◌}
use mathlib.Core.Path.{◌≡◌, refl, sym, ap, subst, ◌∙◌}
use mathlib.Core.Logic.{◌≢◌}
use mathlib.Core.Bool.{Bool, true, false}
use mathlib.Core.List.{List}
use native.Mathlib.Omega.{arith}
use lib.Dec.{eqb}
use borrow.Author.Tests.{eq-eqb, ne_eqb}
use Rattle.line.specs.Count.{count}
use Rattle.line.proofs.CountLaws.{count_le}
use Rattle.line.specs.Line.{rounds}
use Rattle.line.specs.Ballot.{silence}
use Rattle.broadcast.specs.Exchange.{Row, flag_of}
use Rattle.broadcast.specs.Broadcast.{Part, from_sender, first_of, second_of, from_king, part, speaks}
use Rattle.broadcast.specs.Garbled.{some_garbled}
use Rattle.broadcast.specs.Station.{Setup, State, running, done, opened, held, told, ballot, next, moved, next_count, taken, advance, result, at, after}
use Rattle.broadcast.specs.Theorems.{DoneAfter, ValueWithoutEffect, SameButCount, CountWithoutEffect}
use Rattle.line.proofs.BallotLaws.{sender_value_bit}
use Rattle.broadcast.proofs.TallyLaws.{z_bound, y_bit, grade_bound, obey_bit}

module _ (r : ℕ) where
  pub is_sender : r ≡ 1 → part r ≡ from_sender
  unfolding part
  is_sender e = rw (eq-eqb r 1 e)

  pub is_first : r ≢ 1 → r % 3 ≡ 2 → part r ≡ first_of (r / 3)
  unfolding part
  is_first a b = rw (ne_eqb r 1 a, eq-eqb (r % 3) 2 b)

  pub is_second : r ≢ 1 → r % 3 ≢ 2 → r % 3 ≡ 0 → part r ≡ second_of (r / 3 - 1)
  unfolding part
  is_second a b d = rw (ne_eqb r 1 a, ne_eqb (r % 3) 2 b, eq-eqb (r % 3) 0 d)

  pub is_king : r ≢ 1 → r % 3 ≢ 2 → r % 3 ≢ 0 → part r ≡ from_king (r / 3 - 1)
  unfolding part
  is_king a b d = rw (ne_eqb r 1 a, ne_eqb (r % 3) 2 b, ne_eqb (r % 3) 0 d)

-- the ballot in each part
module _ (c : Setup) (s : State) where
  pub ballot_sender : part s.round ≡ from_sender → ballot c s ≡ (if eqb c.own_from_0 c.sender_from_0 then s.value else silence)
  unfolding ballot told speaks held
  ballot_sender e = rw e

  pub ballot_first : {p : ℕ} → part s.round ≡ first_of p → ballot c s ≡ s.value
  unfolding ballot told speaks held
  ballot_first e = rw e

  pub ballot_second : {p : ℕ} → part s.round ≡ second_of p → ballot c s ≡ s.z
  unfolding ballot told speaks held
  ballot_second e = rw e

  pub ballot_king : {p : ℕ} → part s.round ≡ from_king p → ballot c s ≡ (if eqb c.own_from_0 p then s.value else silence)
  unfolding ballot told speaks held
  ballot_king e = rw e

  pub advance_by : {q : Part} (row : Row) → part s.round ≡ q → advance c s row ≡ taken c s row q
  unfolding advance
  advance_by row e = ap (taken c s row) e

-- ---- after any rows: the round counts them, and value, z and grade are in their ranges

pub record InRange (s : State) : Type 0 where
  pub value_bit : s.value ≤ 1
  pub z_high : s.z ≤ 2
  pub grade_high : s.grade ≤ 2

moved_range : (c : Setup) (s : State) (row : Row) (g : ℕ) → InRange s → (q : Part) → InRange (moved c s row g q)
unfolding moved next
moved_range c s row g h from_sender =
    record { value_bit = sender_value_bit (row c.sender_from_0); z_high = h.z_high; grade_high = h.grade_high }
moved_range c s row g h (first_of p) =
    record { value_bit = h.value_bit; z_high = z_bound c.n c.T s.value row h.value_bit; grade_high = h.grade_high }
moved_range c s row g h (second_of p) =
    record { value_bit = y_bit c.n row; z_high = h.z_high; grade_high = grade_bound c.n c.t c.T _ }
moved_range c s row g h (from_king p) =
    record { value_bit = obey_bit s.grade s.value (row p) h.value_bit; z_high = h.z_high; grade_high = h.grade_high }

moved_round : (c : Setup) (s : State) (row : Row) (g : ℕ) (q : Part) → (moved c s row g q).round ≡ s.round + 1
unfolding moved next
moved_round c s row g from_sender = refl
moved_round c s row g (first_of p) = refl
moved_round c s row g (second_of p) = refl
moved_round c s row g (from_king p) = refl

moved_count : (c : Setup) (s : State) (row : Row) (g : ℕ) (q : Part) → (moved c s row g q).garbled ≡ g
unfolding moved next
moved_count c s row g from_sender = refl
moved_count c s row g (first_of p) = refl
moved_count c s row g (second_of p) = refl
moved_count c s row g (from_king p) = refl

-- so by any one row
module _ (c : Setup) (s : State) (row : Row) where
  pub advance_range : InRange s → InRange (advance c s row)
  unfolding advance taken
  advance_range h = moved_range c s row _ h _

  pub advance_round : (advance c s row).round ≡ s.round + 1
  unfolding advance taken
  advance_round = moved_round c s row _ _

  pub advance_count : (advance c s row).garbled ≤ s.garbled + 1
  unfolding advance taken next_count
  advance_count = rw (moved_count c s row (next_count c s.garbled row (part s.round)) (part s.round)) (at_most_one (some_garbled c.n c.sender_from_0 (part s.round) row))
    where
      at_most_one : (b : Bool) → (if b then 1 else 0) + s.garbled ≤ s.garbled + 1
      at_most_one true = omega arith
      at_most_one false = omega arith

module _ (c : Setup) (v : ℕ) (rows : ℕ → List ℕ) where
  pub after_range : v ≤ 1 → (m : ℕ) → InRange (after c v rows m)
  unfolding after opened advance taken
  after_range h zero = record { value_bit = h; z_high = omega arith; grade_high = omega arith }
  after_range h (suc m) = moved_range c (after c v rows m) (at (rows (suc m))) _ (after_range h m) _

  pub after_round : (m : ℕ) → (after c v rows m).round ≡ suc m
  unfolding after opened advance taken
  after_round zero = refl
  after_round (suc m) = moved_round c (after c v rows m) (at (rows (suc m))) _ _ ∙ omega (arith, after_round m)

  -- the count is that of the rows
  pub after_count : (m : ℕ) → (after c v rows m).garbled ≡ count m (λ k. some_garbled c.n c.sender_from_0 (part (suc k)) (at (rows (suc k))))
  unfolding after opened advance taken next_count count
  after_count zero = refl
  after_count (suc m) = moved_count c (after c v rows m) (at (rows (suc m))) _ _ ∙ rw (after_round m, after_count m)

  -- and so at most their number
  pub after_count_le : (m : ℕ) → (after c v rows m).garbled ≤ m
  after_count_le m = rw (after_count m) (count_le m _)

-- ---- after any rows: its result

module _ (c : Setup) (s : State) where
  pub running_in : (r : ℕ) → s.round ≡ r → r ≤ rounds c.t → result c s ≡ running r
  unfolding result
  running_in r e h = rw (e, ne_eqb r (rounds c.t + 1) (omega arith))

  pub done_in : s.round ≡ suc (rounds c.t) → result c s ≡ done s.value s.grade (flag_of s.grade) s.garbled
  unfolding result
  done_in e = rw (e, eq-eqb (suc (rounds c.t)) (rounds c.t + 1) (omega arith))

pub done_after : (c : Setup) (v : ℕ) (rows : ℕ → List ℕ) → DoneAfter c v rows
done_after c v rows = record {
  round_is = λ m. omega (arith, after_round c v rows m);
  running_before = λ m h. running_in c (after c v rows m) (m + 1) (omega (arith, after_round c v rows m)) (omega arith);
  done_after = done_in c (after c v rows (rounds c.t)) (after_round c v rows (rounds c.t));
}

-- ---- after any rows: the value it was opened with is of no effect unless it is the sender's

module _ (c : Setup) (other : c.own_from_0 ≢ c.sender_from_0) (rows : ℕ → List ℕ) where
  silent : (v : ℕ) → ballot c (after c v rows zero) ≡ silence
  unfolding after opened
  silent v = ballot_sender c (opened v) (is_sender 1 refl) ∙ rw (ne_eqb c.own_from_0 c.sender_from_0 other)

  module _ (v w : ℕ) where
    same_state : (m : ℕ) → after c v rows (suc m) ≡ after c w rows (suc m)
    unfolding after opened advance taken moved next
    same_state zero = rw (is_sender 1 refl)
    same_state (suc m) = ap (λ (s : State). advance c s (at (rows (suc (suc m))))) (same_state m)

    same_ballot : (m : ℕ) → ballot c (after c v rows m) ≡ ballot c (after c w rows m)
    same_ballot zero = silent v ∙ sym (silent w)
    same_ballot (suc m) = ap (ballot c) (same_state m)

    same_result : (m : ℕ) → result c (after c v rows m) ≡ result c (after c w rows m)
    same_result zero = (done_after c v rows).running_before 0 (omega arith) ∙ sym ((done_after c w rows).running_before 0 (omega arith))
    same_result (suc m) = ap (result c) (same_state m)

pub value_without_effect : (c : Setup) → c.own_from_0 ≢ c.sender_from_0 → (v w : ℕ) (rows : ℕ → List ℕ) → ValueWithoutEffect c v w rows
value_without_effect c h v w rows = record {
  silent_at_first = (silent c h rows v, silent c h rows w);
  states = same_state c h rows v w;
  ballots = same_ballot c h rows v w;
  results = same_result c h rows v w;
}

-- ---- the count has no effect on anything else

same_told : (c : Setup) (s s' : State) → SameButCount s s' → ballot c s ≡ ballot c s'
unfolding ballot
same_told c s s' h = rw (h.round_is, h.value_is, h.z_is)

same_moved : (c : Setup) (s s' : State) (row : Row) (g g' : ℕ) → SameButCount s s' → (q : Part) → SameButCount (moved c s row g q) (moved c s' row g' q)
unfolding moved next
same_moved c s s' row g g' h from_sender = record { round_is = rw h.round_is; value_is = refl; z_is = h.z_is; grade_is = h.grade_is }
same_moved c s s' row g g' h (first_of p) = record { round_is = rw h.round_is; value_is = h.value_is; z_is = rw h.value_is; grade_is = h.grade_is }
same_moved c s s' row g g' h (second_of p) = record { round_is = rw h.round_is; value_is = refl; z_is = h.z_is; grade_is = refl }
same_moved c s s' row g g' h (from_king p) =
    record { round_is = rw h.round_is; value_is = rw (h.grade_is, h.value_is); z_is = h.z_is; grade_is = h.grade_is }

pub count_without_effect : (c : Setup) (s s' : State) (row : ℕ → ℕ) → SameButCount s s' → CountWithoutEffect c s s' row
unfolding advance taken
count_without_effect c s s' row h = record {
  ballots = same_told c s s' h;
  states = subst (λ (q : Part). SameButCount (advance c s row) (moved c s' row (next_count c s'.garbled row q) q)) (ap part h.round_is) (same_moved c s s' row _ _ h (part s.round));
}
