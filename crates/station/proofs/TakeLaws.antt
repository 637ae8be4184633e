-- What a station tells, and takes from a row, by what the code has of it. Assumes nothing.
use Prim.Native.Nat.{ℕ, ◌-◌, ◌/◌, ◌%◌, ◌≤◌, ◌<◌}
use mathlib.Core.Path.{◌≡◌, refl, sym, ap, ◌∙◌}
use mathlib.Core.Bool.{Bool, true, false}
use mathlib.Core.List.{List}
use native.Mathlib.Omega.{arith}
use lib.Dec.{eqb}
use borrow.Author.Tests.{eqb-false}
use Rattle.std.specs.Prelude.{if◌then◌else◌}
use Rattle.line.specs.Line.{rounds}
use Rattle.line.specs.Ballot.{read_sender, read_first, read_second, read_king, is_garbled, bit_or, sender_value}
use Rattle.line.specs.declared.ballot.Ballot.{Ballot}
use Rattle.broadcast.specs.Exchange.{firsts, seconds, z_from, z_of, y_from, y_of, for_y, grade_of}
use Rattle.broadcast.specs.Broadcast.{from_sender, first_of, second_of, from_king, part, obey}
use Rattle.broadcast.specs.Garbled.{some_garbled}
use Rattle.broadcast.specs.Station.{told, ballot, next, moved, next_count, taken, advance, at}
use Rattle.broadcast.proofs.TallyLaws.{for_y_is}
use Rattle.broadcast.proofs.RowLaws.{garbled_of_sender, garbled_of_king}
use Rattle.step.specs.declared.Part.{Part}
use Rattle.step.specs.declared.Part.TheVariants.{Sender, First, Second, King}
use Rattle.step.specs.Part.{as_part, of_part}
use Rattle.step.specs.Noted.{noted}
use Rattle.step.proofs.StepLaws.{told_as, taken_as, noted_low}
use Rattle.state.specs.declared.Station.{Station}
use Rattle.state.specs.Judgement.{Ready}
use Rattle.station.specs.Automaton.{setup_of, state_of, in_state}
use Rattle.station.specs.declared.tally.Tally.{Tally}
use Rattle.station.specs.Tallies.{found, Counts}
use Rattle.station.proofs.TallyLaws.{equal_is, garbled_is, zeros_are, ones_are, garbled_are}

-- the ballot, by the part
pub part_told : (s : Station) (p : Part) (b : ℕ) → p ≡ as_part (part s.round)
    → b ≡ told (setup_of s).sender_from_0 (setup_of s).own_from_0 s.value s.z (of_part p) → b ≡ ballot (setup_of s) (state_of s)
unfolding ballot
part_told s p b e q =
    q ∙ rw e (told_as (setup_of s).sender_from_0 (setup_of s).own_from_0 s.value s.z (part s.round))

module _ (s : Station) (row : List ℕ) (r : Station) where
  -- the next state, by the part
  pub part_taken : (p q : Part) → p ≡ as_part (part s.round) → p ≡ q
      → r ≡ in_state s (taken (setup_of s) (state_of s) (at row) (of_part q)) → r ≡ in_state s (advance (setup_of s) (state_of s) (at row))
  unfolding advance
  part_taken p q e f g = g ∙ ap (in_state s) (rw (sym f ∙ e) (taken_as (setup_of s) (state_of s) (at row) (part s.round)))

  -- the count that follows, by how many of the expected ballots are garbled: no round is beyond 255, and the count is below the round
  noted_is : Ready s row → (p : Part) (k : ℕ) → k ≡ found s.n (setup_of s).sender_from_0 p (at row)
      → noted s.garbled k ≡ next_count (setup_of s) s.garbled (at row) (of_part p)
  unfolding next_count some_garbled found
  noted_is h p k e =
      let low : s.garbled < 255 = omega (arith, h.sound.garbled_below, h.round_left, h.sound.fits.order, h.sound.fits.room, h.sound.most) in
      noted_low s.garbled k low ∙ rw e

  -- in round 1 and in a king's round, by the one ballot that is expected
  pub sender_taken : Ready s row → (heard : Ballot) (x k : ℕ) → heard ≡ read_sender (at row (setup_of s).sender_from_0) → x ≡ bit_or 0 heard
      → k ≡ (if is_garbled heard then 1 else 0)
      → r ≡ in_state s (next (state_of s) x s.z s.grade (noted s.garbled k)) → r ≡ in_state s (taken (setup_of s) (state_of s) (at row) (of_part Sender))
  unfolding taken moved sender_value found
  sender_taken h heard x k a b e g =
      let few : s.sender - 1 < s.n = omega (arith, h.sound.sender_low, h.sound.sender_high) in
      let q : k ≡ found s.n (s.sender - 1) Sender (at row) = e ∙ rw a (sym (garbled_of_sender s.n (s.sender - 1) (at row) few)) in
      rw (b, a, noted_is h Sender k q) at g

  pub king_taken : Ready s row → (p : ℕ) → p < s.n → (heard : Ballot) (x k : ℕ) → heard ≡ read_king (at row p) → x ≡ obey s.grade s.value heard
      → k ≡ (if is_garbled heard then 1 else 0)
      → r ≡ in_state s (next (state_of s) x s.z s.grade (noted s.garbled k)) → r ≡ in_state s (taken (setup_of s) (state_of s) (at row) (of_part (King p)))
  unfolding taken moved found
  king_taken h p few heard x k a b e g =
      let q : k ≡ found s.n (s.sender - 1) (King p) (at row) = e ∙ rw a (sym (garbled_of_king s.n (s.sender - 1) p (at row) few)) in
      rw (b, a, noted_is h (King p) k q) at g

  -- and in an exchange by the tally of a row that has n ballots
  module _ (ready : Ready s row) (t : Tally) where
    pub first_taken : (equal z : ℕ) → Counts read_first row t → equal ≡ (if eqb s.value 0 then t.zeros else t.ones) → z ≡ z_from s.n s.upper s.value equal
        → r ≡ in_state s (next (state_of s) s.value z s.grade (noted s.garbled t.garbled))
        → r ≡ in_state s (taken (setup_of s) (state_of s) (at row) (of_part First))
    unfolding taken moved z_of
    first_taken equal z k a b g =
        let q : t.garbled ≡ found s.n (s.sender - 1) First (at row) = rw ready.whole at (garbled_is row t k (s.sender - 1)) in
        let e : equal ≡ firsts s.n s.value (at row) = rw ready.whole at (a ∙ equal_is row t k s.value ready.sound.value_bit) in
        rw (b, e, noted_is ready First t.garbled q) at g

    pub second_taken : (y grade : ℕ) → Counts read_second row t → y ≡ y_from t.zeros t.ones → grade ≡ grade_of s.n s.t s.upper (for_y t.zeros t.ones)
        → r ≡ in_state s (next (state_of s) y s.z grade (noted s.garbled t.garbled))
        → r ≡ in_state s (taken (setup_of s) (state_of s) (at row) (of_part Second))
    unfolding taken moved y_of
    second_taken y grade k e f g =
        let q : t.garbled ≡ found s.n (s.sender - 1) Second (at row) = rw ready.whole at (garbled_are row t k (s.sender - 1)) in
        let a : t.zeros ≡ seconds s.n 0 (at row) = rw ready.whole at (zeros_are row t k) in
        let b : t.ones ≡ seconds s.n 1 (at row) = rw ready.whole at (ones_are row t k) in
        let y_is : y ≡ y_from (seconds s.n 0 (at row)) (seconds s.n 1 (at row)) = rw (a, b) at e in
        let grade_is : grade ≡ grade_of s.n s.t s.upper (seconds s.n (y_of s.n (at row)) (at row)) = (rw (a, b) at f) ∙ ap (grade_of s.n s.t s.upper) (for_y_is s.n (at row)) in
        rw (y_is, grade_is, noted_is ready Second t.garbled q) at g

-- ---- a king's round has one of the t + 1 kings, who is a station

abbrev king_or_0 : Part → ℕ
king_or_0 Sender = 0
king_or_0 First = 0
king_or_0 Second = 0
king_or_0 (King k) = k

king_high : (r t : ℕ) → r ≤ rounds t → king_or_0 (as_part (part r)) ≤ t
unfolding part
king_high r t h = go (eqb r 1) (eqb (r % 3) 2) (eqb (r % 3) 0) refl refl
  where
    go : (a b d : Bool) → eqb (r % 3) 2 ≡ b → eqb (r % 3) 0 ≡ d
        → king_or_0 (as_part (if a then from_sender else (if b then first_of (r / 3) else (if d then second_of (r / 3 - 1) else from_king (r / 3 - 1)))))
        ≤ t
    go true b d p q = omega arith
    go false true d p q = omega arith
    go false false true p q = omega arith
    go false false false p q = omega (arith, eqb-false (r % 3) 2 p, eqb-false (r % 3) 0 q)

pub king_within : (s : Station) (row : List ℕ) (k : ℕ) → Ready s row → King k ≡ as_part (part s.round) → k < s.n
king_within s row k h e =
    omega (arith, ap king_or_0 e, king_high s.round s.t h.round_left, h.sound.fits.order, h.sound.fits.room)
