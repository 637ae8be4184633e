-- A single station in a run: as long as its rows have the run's bytes, it knows what the run makes of it. Assumes nothing.
use Prim.Native.Nat.{ℕ, zero, suc, ◌+◌, ◌≤◌, ◌<◌}
use mathlib.Core.Path.{◌≡◌, refl, ap, ◌∙◌}
use mathlib.Core.Bool.{Bool, true, false}
use mathlib.Core.List.{List}
use native.Mathlib.Omega.{arith}
use native.Mathlib.Numerals.{add-one}
use lib.Dec.{eqb}
use borrow.Author.Tests.{eqb-true}
use Rattle.std.specs.Prelude.{if◌then◌else◌}
use Rattle.line.specs.Line.{rounds}
use Rattle.line.specs.Ballot.{silence, sender_value}
use Rattle.broadcast.specs.Exchange.{Setting, Row, sends, grade_of, first_row, z, second_row, y, grade}
use Rattle.broadcast.specs.Broadcast.{phases, first_round, x_after, z_after, y_after, grade_after, value_of, final_grade, final_flag, Part, from_sender, first_of, second_of, from_king, part, speaks, spoken, said, sent}
use Rattle.broadcast.specs.Station.{Setup, State, running, done, opened, held, told, ballot, next, moved, taken, advance, result, at, after}
use Rattle.broadcast.proofs.RowLaws.{seconds_same, z_same, y_same}
use Rattle.broadcast.proofs.PartLaws.{part_sender, part_first, part_second, part_king, next_first, first_is, by_parts}
use Rattle.broadcast.proofs.RoundLaws.{running_in, done_in}
use Rattle.broadcast.proofs.SaidLaws.{said_sender, said_first, said_king, sent_second}

-- ---- station j of a run, opened with v

module _ (S : Setting) (sender_from_0 value : ℕ) (in_line : sender_from_0 < S.n) (few : S.t < S.n) (j v : ℕ) where
  abbrev pub its_setup : Setup
  its_setup = record { n = S.n; t = S.t; T = S.T; sender_from_0 = sender_from_0; own_from_0 = j }

  -- what the station holds in a part
  unfoldable pub Holds : Part → State → Type 0
  Holds from_sender s = s.value ≡ v
  Holds (first_of p) s = s.value ≡ x_after S sender_from_0 value p j
  Holds (second_of p) s = (s.value ≡ x_after S sender_from_0 value p j) × (s.z ≡ z_after S sender_from_0 value p j)
  Holds (from_king p) s = (s.value ≡ y_after S sender_from_0 value p j) × (s.grade ≡ grade_after S sender_from_0 value p j)

  pub record Knows (r : ℕ) (s : State) : Type 0 where
    pub in_round : s.round ≡ r
    pub holds : Holds (part r) s

  -- a row with the run's bytes of round r
  abbrev pub Received : ℕ → Row → Type 0
  Received r row = (i : ℕ) → i < S.n → row i ≡ sent S sender_from_0 value r i j

  -- ---- one row more

  pub step_sender : (s : State) (row : Row) → Received 1 row → Knows 1 s → Knows (1 + 1) (advance its_setup s row)
  unfolding advance taken moved next Holds x_after sent first_round
  step_sender s row h k = rw (k.in_round, part_sender) (record {
    in_round = refl;
    holds = rw (part_first 0) (ap sender_value (h sender_from_0 in_line ∙ ap (sends S 1 sender_from_0 j) (said_sender S sender_from_0 value)));
  })

  pub step_first : (p : ℕ) (s : State) (row : Row) → Received (first_round p) row → Knows (first_round p) s
      → Knows (first_round p + 1) (advance its_setup s row)
  unfolding advance taken moved next Holds z_after z first_row sent
  step_first p s row h k =
      let e : s.value ≡ x_after S sender_from_0 value p j = rw (part_first p) at k.holds in
      let same = z_same S.n row _ (λ i l. h i l ∙ ap (sends S (first_round p) i j) (said_first S sender_from_0 value p i)) in
      rw (k.in_round, part_first p) (record {
        in_round = refl;
        holds = rw (part_second p) (e, rw e (same S.T (x_after S sender_from_0 value p j)));
      })

  pub step_second : (p : ℕ) (s : State) (row : Row) → Received (first_round p + 1) row → Knows (first_round p + 1) s
      → Knows (first_round p + 1 + 1) (advance its_setup s row)
  unfolding advance taken moved next Holds y_after grade_after y grade
  step_second p s row h k =
      let same : (i : ℕ) → i < S.n → row i ≡ second_row S (first_round p) (x_after S sender_from_0 value p) j i
      = λ i l. h i l ∙ sent_second S sender_from_0 value p i j in
      let ey = y_same S.n row _ same in
      let two : first_round p + 1 + 1 ≡ first_round p + 2 = omega arith in
      rw (k.in_round, part_second p) (record {
        in_round = refl;
        holds = rw (two, part_king p) (ey, ap (grade_of S.n S.t S.T) (rw ey (seconds_same S.n row _ same _)));
      })

  pub step_king : (p : ℕ) (s : State) (row : Row) → first_round p + 2 ≤ rounds S.t → Received (first_round p + 2) row
      → Knows (first_round p + 2) s → Knows (first_round p + 2 + 1) (advance its_setup s row)
  unfolding advance taken moved next Holds x_after y_after grade_after sent
  step_king p s row l h k =
      let (e, g) : Holds (from_king p) s = rw (part_king p) at k.holds in
      let b = h p (omega (arith, first_is p)) ∙ ap (sends S (first_round p + 2) p j) (said_king S sender_from_0 value p) in
      rw (k.in_round, part_king p) (record {
        in_round = refl;
        holds = rw (next_first p, part_first (suc p)) (rw (e, g, b));
      })

  step : (r : ℕ) → 1 ≤ r → r ≤ rounds S.t → (s : State) (row : Row) → Received r row → Knows r s
      → Knows (r + 1) (advance its_setup s row)
  step =
      by_parts
      (λ (r : ℕ). r ≤ rounds S.t → (s : State) (row : Row) → Received r row → Knows r s → Knows (r + 1) (advance its_setup s row))
      (λ _. step_sender) (λ p _. step_first p) (λ p _. step_second p) (λ p l s row. step_king p s row l)

  -- after the rows of rounds 1 to m
  pub knows_after : (rows : ℕ → List ℕ) (m : ℕ) → m ≤ rounds S.t → ((r : ℕ) → 1 ≤ r → r ≤ m → Received r (at (rows r)))
      → Knows (suc m) (after its_setup v rows m)
  unfolding after opened Holds
  knows_after rows zero l h = record { in_round = refl; holds = rw part_sender refl }
  knows_after rows (suc m) l h =
      rw add-one at
      (step (suc m) (omega arith) l (after its_setup v rows m) (at (rows (suc m))) (h (suc m) (omega arith) (omega arith))
      (knows_after rows m (omega arith) (λ r a b. h r a (omega arith))))

  -- ---- what it tells

  tells_sender : (s : State) → (j ≡ sender_from_0 → v ≡ value) → Knows 1 s → ballot its_setup s ≡ said S sender_from_0 value 1 j
  unfolding ballot told said held spoken speaks Holds
  tells_sender s opens k =
      let e : s.value ≡ v = rw part_sender at k.holds in rw (k.in_round, part_sender) (go (eqb j sender_from_0) refl e)
    where
      go : (b : Bool) → eqb j sender_from_0 ≡ b → s.value ≡ v → (if b then s.value else silence) ≡ (if b then value else silence)
      go true q e = e ∙ opens (eqb-true j sender_from_0 q)
      go false q e = refl

  tells_first : (p : ℕ) (s : State) → Knows (first_round p) s → ballot its_setup s ≡ said S sender_from_0 value (first_round p) j
  unfolding ballot told said held spoken speaks Holds
  tells_first p s k = rw (k.in_round, part_first p) (rw (part_first p) at k.holds)

  tells_second : (p : ℕ) (s : State) → Knows (first_round p + 1) s → ballot its_setup s ≡ said S sender_from_0 value (first_round p + 1) j
  unfolding ballot told said held spoken speaks Holds
  tells_second p s k = let h : Holds (second_of p) s = rw (part_second p) at k.holds in rw (k.in_round, part_second p) h.1

  tells_king : (p : ℕ) (s : State) → Knows (first_round p + 2) s → ballot its_setup s ≡ said S sender_from_0 value (first_round p + 2) j
  unfolding ballot told said held spoken speaks Holds
  tells_king p s k = let h : Holds (from_king p) s = rw (part_king p) at k.holds in rw (k.in_round, part_king p, h.0)

  pub tells : (r : ℕ) → 1 ≤ r → (j ≡ sender_from_0 → v ≡ value) → (s : State) → Knows r s → ballot its_setup s ≡ said S sender_from_0 value r j
  tells r h opens =
      by_parts (λ (q : ℕ). (s : State) → Knows q s → ballot its_setup s ≡ said S sender_from_0 value q j)
      (λ s. tells_sender s opens) tells_first tells_second tells_king r h

  -- ---- what it answers

  pub is_running : (r : ℕ) (s : State) → r ≤ rounds S.t → Knows r s → result its_setup s ≡ running r
  is_running r s l k = running_in its_setup s r k.in_round l

  pub is_done : (s : State) → Knows (suc (rounds S.t)) s
      → result its_setup s ≡ done (value_of S sender_from_0 value j) (final_grade S sender_from_0 value j) (final_flag S sender_from_0 value j) s.garbled
  unfolding Holds phases value_of final_grade final_flag
  is_done s k =
      let e : suc (rounds S.t) ≡ first_round (S.t + 1) + 2 = omega (arith, first_is (S.t + 1)) in
      let h : Holds (from_king (S.t + 1)) s = rw (e, part_king (S.t + 1)) at k.holds in
      done_in its_setup s k.in_round ∙ rw (h.0, h.1)
