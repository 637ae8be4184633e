-- An offer's ballot is what the station that it leads to tells; and every offer is of bytes. Assumes nothing.
use Prim.Native.Nat.{ℕ, ◌+◌, ◌-◌, ◌≤◌, ◌<◌}
use Rattle.std.specs.declared.result.Result.{Result}
use Rattle.std.specs.declared.result.Result.TheVariants.{Ok, Err}
use mathlib.Core.Path.{◌≡◌, refl, sym, subst, ◌∙◌}
use mathlib.Core.Bool.{Bool, true, false}
use mathlib.Core.List.{List}
use native.Mathlib.Omega.{arith}
use Rattle.std.specs.Prelude.{if◌then◌else◌}
use Rattle.line.specs.Line.{rounds, place}
use Rattle.line.specs.Ballot.{silence}
use Rattle.line.proofs.CountLaws.{if_true, if_false}
use Rattle.refusal.specs.declared.cause.Cause.{Cause}
use Rattle.refusal.specs.declared.cause.Cause.TheVariants.{StationState}
use Rattle.refusal.proofs.VerdictLaws.{refused_true, refused_false}
use Rattle.broadcast.specs.Broadcast.{Part, from_sender, first_of, second_of, from_king, part, speaks}
use Rattle.broadcast.specs.Exchange.{flag_of}
use Rattle.broadcast.specs.Station.{held, told, ballot, running, done, result, at}
use Rattle.broadcast.specs.Bytes.{column}
use Rattle.state.specs.declared.Station.{Station}
use Rattle.state.specs.Judgement.{is_done, Sound}
use Rattle.state.proofs.SoundLaws.{sound_accepts, ready}
use Rattle.station.specs.declared.StationResult.{StationResult}
use Rattle.station.specs.declared.StationResult.TheVariants.{Running, Done}
use Rattle.station.specs.Automaton.{setup_of, state_of, as_result, result_of}
use Rattle.station.specs.Answers.{ballot_answer, result_answer}
use Rattle.station.specs.Singly.{Singly}
use Rattle.offer.specs.declared.Offer.{Offer}
use Rattle.offer.specs.Offers.{following, next_ballot, with_ballot, offer_of, show_answer}
use Rattle.offer.specs.Theorems.{ShowsBallot, Ahead}
use Rattle.offer.proofs.OfferLaws.{following_sound, telling_by_done, next_sound}
use Rattle.offer.proofs.TogetherLaws.{is_shown, together}
use Rattle.offer.proofs.WordLaws.{Bytes}

-- ---- a sound station's result, by whether it is done

as_running : (d : Bool) (v g f k r : ℕ) {x : ℕ} → as_result (if d then done v g f k else running r) ≡ Running x → d ≡ false
as_running true v g f k r e = let z : ◌≡◌ {A = ℕ} 0 1 = cc in absurd (omega arith)
as_running false v g f k r e = refl

as_done : (d : Bool) (v g f k r : ℕ) {w h i l : ℕ} → as_result (if d then done v g f k else running r) ≡ Done w h i l → d ≡ true
as_done true v g f k r e = refl
as_done false v g f k r e = let z : ◌≡◌ {A = ℕ} 0 1 = cc in absurd (omega arith)

as_refused : (q : StationResult) {c : Cause} → ◌≡◌ {A = Result StationResult Cause} (Ok q) (Err c) → ⊥
as_refused q e = let z : ◌≡◌ {A = ℕ} 0 1 = cc in omega arith

as_ok : {q q' : StationResult} → ◌≡◌ {A = Result StationResult Cause} (Ok q) (Ok q') → q ≡ q'
as_ok e = cc

module _ (s : Station) (h : Sound s) where
  abbrev d : Bool
  d = is_done s.t s.round

  result_is : result_answer s ≡ Ok (as_result (if d then done s.value s.grade (flag_of s.grade) s.garbled else running s.round))
  unfolding result_of result is_done
  result_is = rw (sound_accepts s h)

  tells_if_not : d ≡ false → ballot_answer s ≡ Ok (next_ballot s)
  unfolding next_ballot
  tells_if_not e = rw (telling_by_done s h, refused_false StationState e, if_false silence (ballot (setup_of s) (state_of s)) e)

  silent_if : d ≡ true → (next_ballot s ≡ 255) × (ballot_answer s ≡ Err StationState)
  unfolding next_ballot
  silent_if e = (if_true _ _ e, rw (telling_by_done s h, refused_true StationState e))

  pub shows_ballot : ShowsBallot s (offer_of s)
  unfolding with_ballot
  shows_ballot = record {
    running = λ r e. tells_if_not (as_running d s.value s.grade (flag_of s.grade) s.garbled s.round (as_ok (sym result_is ∙ e)));
    done = λ v g f k e. silent_if (as_done d s.value s.grade (flag_of s.grade) s.garbled s.round (as_ok (sym result_is ∙ e)));
    one_of_these = λ c e. as_refused _ (sym result_is ∙ e);
  }

-- ---- its bytes

held_low : (value z : ℕ) → value ≤ 1 → z ≤ 2 → (p : Part) → held value z p ≤ 255
unfolding held
held_low value z a b from_sender = omega arith
held_low value z a b (first_of p) = omega arith
held_low value z a b (second_of p) = omega arith
held_low value z a b (from_king p) = omega arith

one_low : (b : Bool) (u v : ℕ) → u ≤ 255 → v ≤ 255 → (if b then u else v) ≤ 255
one_low true u v p q = p
one_low false u v p q = q

offer_bytes_of : (s : Station) → Sound s → Bytes (offer_of s)
unfolding with_ballot next_ballot ballot told
offer_bytes_of s h =
    let f = h.fits in
    let b : next_ballot s ≤ 255 = one_low (is_done s.t s.round) silence _ (omega arith) (one_low (speaks (s.sender - 1) (part s.round) (s.own - 1)) _ silence (held_low s.value s.z h.value_bit h.z_high (part s.round)) (omega arith)) in
    record {
      round_some = h.round_low;
      round_byte = omega (arith, h.round_high, h.most, f.order, f.room);
      value_byte = omega (arith, h.value_bit);
      z_byte = omega (arith, h.z_high);
      grade_byte = omega (arith, h.grade_high);
      garbled_byte = omega (arith, h.garbled_below, h.round_high, h.most, f.order, f.room);
      ballot_byte = omega (arith, b);
    }

pub shown_bytes : (s : Station) (row : List ℕ) (o : Offer) → show_answer s row ≡ Ok o → Bytes o
shown_bytes s row o e =
    let (a, q) = is_shown s row e in
    subst Bytes (sym q) (offer_bytes_of (following s row) (following_sound s row (ready s row a)))

-- ---- on the rows of a log

same_told : {a : Result ℕ Cause} {b c : ℕ} → a ≡ Ok b → a ≡ Ok c → b ≡ c
same_told p q = cc

module _ (n t T sender : ℕ) (log outcomes : List ℕ) (i v : ℕ) (S : Singly n t T sender log outcomes i v) where
  after_row : (m : ℕ) → m < rounds t → ShowsBallot (S.station (m + 1)) (offer_of (S.station (m + 1)))
  after_row m h = shows_ballot (S.station (m + 1)) (next_sound (S.station m) (column n log i (m + 1)) (S.advances m h))

  in_log : (m j : ℕ) → m + 1 < rounds t → j < n → (offer_of (S.station (m + 1))).ballot ≡ at log (place n (m + 2) i j)
  in_log m j h l =
      let e : m + 1 + 1 ≡ m + 2 = omega arith in
      rw (← e) (same_told ((after_row m (omega arith)).running _ (S.running (m + 1) h)) (S.tells (m + 1) j h l))

  at_the_end : (offer_of (S.station (rounds t))).ballot ≡ 255
  at_the_end =
      let e : rounds t - 1 + 1 ≡ rounds t = omega arith in
      ((rw e at (after_row (rounds t - 1) (omega arith))).done _ _ _ _ S.done).0

  pub ahead : Ahead n t T sender log outcomes i v S
  ahead = record {
    shows = λ m h. (together (S.station m) (column n log i (m + 1))).shows _ (S.advances m h);
    accepts = λ m h.
        let both = together (S.station m) (column n log i (m + 1)) in
        both.accepts _ (both.shows _ (S.advances m h)) ∙ S.advances m h;
    in_log = in_log;
    at_the_end = at_the_end;
  }
