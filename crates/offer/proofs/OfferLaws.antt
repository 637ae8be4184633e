-- A station after an accepted row is sound, what it then tells is the offer's ballot, and two offers are the same exactly if they are equal. Assumes nothing.
use Prim.Native.Nat.{ℕ}
use Rattle.std.specs.declared.result.Result.{Result}
use Rattle.std.specs.declared.result.Result.TheVariants.{Ok, Err}
use mathlib.Core.Path.{◌≡◌, refl, sym, ap, subst, ◌∙◌}
use mathlib.Core.Bool.{Bool, true, false}
use mathlib.Core.List.{List}
use native.Mathlib.Omega.{arith}
use lib.Dec.{eqb}
use lib.ListN.{length}
use borrow.Author.Tests.{eqb-true, eq-eqb}
use Rattle.std.specs.Prelude.{if◌then◌else◌}
use Rattle.line.specs.Ballot.{silence}
use Rattle.line.proofs.CountLaws.{both_true}
use Rattle.refusal.specs.Cause.{code, given, refused_if, no_cause, answered, values}
use Rattle.refusal.proofs.VerdictLaws.{code_by, values_by}
use Rattle.refusal.specs.declared.cause.Cause.{Cause}
use Rattle.refusal.specs.declared.cause.Cause.TheVariants.{StationState}
use Rattle.refusal.specs.Cause.{Verdict}
use Rattle.broadcast.specs.Station.{ballot, at}
use Rattle.broadcast.proofs.RoundLaws.{InRange, advance_range, advance_round, advance_count}
use Rattle.state.specs.declared.Station.{Station}
use Rattle.state.specs.Judgement.{is_done, telling_verdict, taking_verdict, Sound, Ready}
use Rattle.state.proofs.SoundLaws.{sound_accepts, ready}
use Rattle.station.specs.Automaton.{setup_of, state_of}
use Rattle.station.specs.Answers.{bytes_of, advance_answer}
use Rattle.offer.specs.declared.Offer.{Offer}
use Rattle.offer.specs.Offers.{following, next_ballot, with_ballot, told_byte, offer_told, offer_of, offer_for, offer_bytes, Shows, same, comparing_verdict, accepting_verdict, Accepts}

-- ---- the station that follows

pub following_sound : (s : Station) (row : List ℕ) → Ready s row → Sound (following s row)
unfolding following
following_sound s row h =
    let in_range : InRange (state_of s) = record { value_bit = h.sound.value_bit; z_high = h.sound.z_high; grade_high = h.sound.grade_high } in
    let g = advance_range (setup_of s) (state_of s) (at row) in_range in
    let r = advance_round (setup_of s) (state_of s) (at row) in
    let k = advance_count (setup_of s) (state_of s) (at row) in
    record {
      most = h.sound.most;
      fits = h.sound.fits;
      sender_low = h.sound.sender_low;
      sender_high = h.sound.sender_high;
      own_low = h.sound.own_low;
      own_high = h.sound.own_high;
      round_low = omega (arith, r);
      round_high = omega (arith, r, h.round_left);
      value_bit = g.value_bit;
      z_high = g.z_high;
      grade_high = g.grade_high;
      garbled_below = omega (arith, r, k, h.sound.garbled_below);
    }

-- a station's row taken, in crate station's words
pub advance_is : (s : Station) (row : List ℕ) → advance_answer s row ≡ answered (taking_verdict s (length row)) (following s row)
unfolding following
advance_is s row = refl

-- ---- its ballot

-- a sound station is refused a ballot exactly if it is done
pub telling_by_done : (s : Station) → Sound s → telling_verdict s ≡ refused_if (is_done s.t s.round) StationState
unfolding telling_verdict
telling_by_done s h = rw (sound_accepts s h)

told_or_silent : (d : Bool) (b : ℕ) → told_byte (answered (refused_if d StationState) b) ≡ (if d then silence else b)
unfolding refused_if
told_or_silent true b = refl
told_or_silent false b = refl

pub told_offer : (next : Station) → Sound next → offer_told next ≡ offer_of next
unfolding next_ballot
told_offer next h =
    ap (with_ballot next) (rw (telling_by_done next h) (told_or_silent (is_done next.t next.round) (ballot (setup_of next) (state_of next))))

-- ---- two offers

six : ℕ → ℕ → ℕ → ℕ → ℕ → ℕ → Offer
six r v z g k b = record { round = r; value = v; z = z; grade = g; garbled = k; ballot = b }

pub from_bytes : (a b : Offer) → a.round ≡ b.round → a.value ≡ b.value → a.z ≡ b.z → a.grade ≡ b.grade → a.garbled ≡ b.garbled → a.ballot ≡ b.ballot
    → a ≡ b
unfolding six
from_bytes a b r v z g k l =
    let e : six a.round a.value a.z a.grade a.garbled a.ballot ≡ six b.round b.value b.z b.grade b.garbled b.ballot = rw (r, v, z, g, k, l) in
    e

pub same_equal : (a b : Offer) → same a b ≡ true → a ≡ b
unfolding same
same_equal a b e =
    let (r, e₁) = both_true (eqb a.round b.round) _ e in
    let (v, e₂) = both_true (eqb a.value b.value) _ e₁ in
    let (z, e₃) = both_true (eqb a.z b.z) _ e₂ in
    let (g, e₄) = both_true (eqb a.grade b.grade) _ e₃ in
    let (k, l) = both_true (eqb a.garbled b.garbled) _ e₄ in
    from_bytes a b (eqb-true _ _ r) (eqb-true _ _ v) (eqb-true _ _ z) (eqb-true _ _ g) (eqb-true _ _ k) (eqb-true _ _ l)

pub same_self : (a : Offer) → same a a ≡ true
unfolding same
same_self a = rw (eq-eqb a.round _ refl, eq-eqb a.value _ refl, eq-eqb a.z _ refl, eq-eqb a.grade _ refl, eq-eqb a.garbled _ refl, eq-eqb a.ballot _ refl)

-- ---- the calls' answers

pub shows : (s : Station) (row : List ℕ) (r : Result Offer Cause) → r ≡ answered (taking_verdict s (length row)) (offer_for s row) → Shows s row r
shows s row r e = record { answer = e; number_is = code_by _ _ e; values_are = values_by offer_bytes _ _ e }

pub accepts : (s : Station) (row : List ℕ) (o : Offer) (r : Result Station Cause) → r ≡ answered (accepting_verdict s row o) (following s row) → Accepts s row o r
accepts s row o r e = record { answer = e; number_is = code_by _ _ e; values_are = values_by bytes_of _ _ e }

-- ---- by what taking the row answers

went : (v : Verdict) (after : Station) {next : Station} → answered v after ≡ Ok next → (v ≡ no_cause) × (next ≡ after)
went (Ok _) after e = (refl, cc)
went (Err c) after e = let z : ◌≡◌ {A = ℕ} 0 1 = cc in absurd (omega arith)

stayed : (v : Verdict) (after : Station) {c : Cause} → answered v after ≡ Err c → v ≡ Err c
stayed (Ok _) after e = let z : ◌≡◌ {A = ℕ} 0 1 = cc in absurd (omega arith)
stayed (Err d) after e = cc

module _ (s : Station) (row : List ℕ) where
  pub is_next : {next : Station} → advance_answer s row ≡ Ok next → (taking_verdict s (length row) ≡ no_cause) × (next ≡ following s row)
  is_next e = went (taking_verdict s (length row)) (following s row) (sym (advance_is s row) ∙ e)

  pub is_refused : {c : Cause} → advance_answer s row ≡ Err c → taking_verdict s (length row) ≡ Err c
  is_refused e = stayed (taking_verdict s (length row)) (following s row) (sym (advance_is s row) ∙ e)

  pub next_sound : {next : Station} → advance_answer s row ≡ Ok next → Sound next
  next_sound e = let (a, q) = is_next e in subst Sound (sym q) (following_sound s row (ready s row a))

  pub shown_next : {next : Station} → advance_answer s row ≡ Ok next → (o : Offer) → o ≡ offer_told next → Shows s row (Ok o)
  shown_next e o p = let (a, q) = is_next e in shows s row _ (rw (a, ← q, ← told_offer _ (next_sound e), ← p))

  pub shown_refused : {c : Cause} → advance_answer s row ≡ Err c → Shows s row (Err c)
  shown_refused e = shows s row _ (rw (is_refused e))

  pub accepted_next : {next : Station} → advance_answer s row ≡ Ok next → (o : Offer) (r : Result Station Cause)
      → r ≡ answered (comparing_verdict o (offer_told next)) next → Accepts s row o r
  unfolding accepting_verdict
  accepted_next e o r p = let (a, q) = is_next e in accepts s row o r (rw (a, ← q, ← told_offer _ (next_sound e)) p)

  pub accepted_refused : {c : Cause} → advance_answer s row ≡ Err c → (o : Offer) → Accepts s row o (Err c)
  unfolding accepting_verdict
  accepted_refused e o = accepts s row o _ (rw (is_refused e))
