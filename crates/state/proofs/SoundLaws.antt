-- A station that is not refused is as document 01 wants it. Assumes nothing.
use Prim.Native.Nat.{ℕ, ◌+◌, ◌≤◌, ◌<◌}
use Rattle.std.specs.declared.result.Result.TheVariants.{Ok, Err}
use mathlib.Core.Path.{◌≡◌, refl, ◌∙◌}
use mathlib.Core.List.{List}
use mathlib.Core.Logic.{◌⊎◌, inl, inr}
use native.Mathlib.Omega.{arith}
use lib.ListN.{length}
use borrow.Author.Tests.{ltb-false, leb-false, eqb-false, le-ltb, lt-leb, ne_eqb}
use Rattle.line.specs.Line.{rounds}
use Rattle.header.specs.Header.{station_number}
use Rattle.refusal.specs.Cause.{◌or_else◌, no_cause}
use Rattle.refusal.specs.Cause.{Verdict}
use Rattle.line.proofs.CountLaws.{le_or_lt}
use Rattle.header.specs.Header as header
use Rattle.refusal.proofs.VerdictLaws.{both_accepted, accepted_false, refused_false, neither}
use Rattle.header.proofs.HeaderLaws.{inside, inside_not, line_sound, line_accepts, length_exact, number_accepts, bit_accepts, length_accepts}
use Rattle.state.specs.declared.Station.{Station}
use Rattle.state.specs.Judgement.{foreign_state, is_done, state_verdict, station_verdict, telling_verdict, taking_verdict, opening_verdict, Sound, Ready}

-- the first three verdicts joined beforehand
pub joined : (a b c d : Verdict) {p q r : Verdict} → p ≡ (a or_else b or_else c) → q ≡ d → r ≡ (p or_else q) → r ≡ (a or_else b or_else c or_else d)
joined a b c d e f g = g ∙ rw (e, f) (go a b c)
  where
    go : (a b c : Verdict) → ((a or_else b or_else c) or_else d) ≡ (a or_else b or_else c or_else d)
    go (Ok _) (Ok _) c = refl
    go (Ok _) (Err x) c = refl
    go (Err x) b c = refl

pub sound : (s : Station) → station_verdict s ≡ no_cause → Sound s
unfolding station_verdict station_number state_verdict foreign_state
sound s e =
    let (a, e₂) = both_accepted _ _ e in
    let (c, e₃) = both_accepted _ _ e₂ in
    let (d, f) = both_accepted _ _ e₃ in
    let (some, most, fits) = line_sound s.n s.t s.upper a in
    let (r, f₂) = neither _ _ (accepted_false _ _ f) in
    let (v, f₃) = neither _ _ f₂ in
    let (z, f₄) = neither _ _ f₃ in
    let (g, k) = neither _ _ f₄ in
    let sender = inside 1 s.n s.sender (accepted_false _ _ c) in
    let own = inside 1 s.n s.own (accepted_false _ _ d) in
    let round = inside 1 (rounds s.t + 1) s.round r in
    record {
      most = most;
      fits = fits;
      sender_low = sender.0;
      sender_high = sender.1;
      own_low = own.0;
      own_high = own.1;
      round_low = round.0;
      round_high = round.1;
      value_bit = ltb-false 1 s.value v;
      z_high = ltb-false 2 s.z z;
      grade_high = ltb-false 2 s.grade g;
      garbled_below = leb-false s.round s.garbled k;
    }

pub telling_sound : (s : Station) → telling_verdict s ≡ no_cause → Sound s × (s.round ≤ rounds s.t)
unfolding telling_verdict is_done
telling_sound s e =
    let (a, b) = both_accepted _ _ e in
    let h = sound s a in
    let other = eqb-false s.round (rounds s.t + 1) (accepted_false _ _ b) in
    (h, omega (arith, h.round_high, lt_or_eq s.round (rounds s.t + 1) h.round_high other))
  where
    lt_or_eq : (a b : ℕ) → a ≤ b → (a ≡ b → ⊥) → a + 1 ≤ b
    lt_or_eq a b h ne = go (le_or_lt b a)
      where
        go : (b ≤ a) ⊎ (a < b) → a + 1 ≤ b
        go (inl k) = absurd (ne (omega arith))
        go (inr k) = omega arith

pub ready : (s : Station) (row : List ℕ) → taking_verdict s (length row) ≡ no_cause → Ready s row
unfolding taking_verdict
ready s row e =
    let (a, b) = both_accepted _ _ e in
    let (h, k) = telling_sound s a in
    record { sound = h; round_left = k; whole = length_exact s.n (length row) b }

-- ---- and a station that is as document 01 wants it is not refused

pub sound_accepts : (s : Station) → Sound s → station_verdict s ≡ no_cause
unfolding station_verdict state_verdict foreign_state
sound_accepts s h =
    rw (line_accepts s.n s.t s.upper h.most h.fits, number_accepts s.n s.sender h.sender_low h.sender_high, number_accepts s.n s.own h.own_low h.own_high, inside_not 1 (rounds s.t + 1) s.round h.round_low h.round_high, le-ltb 1 s.value h.value_bit, le-ltb 2 s.z h.z_high, le-ltb 2 s.grade h.grade_high, lt-leb s.round s.garbled h.garbled_below)
    (refused_false _ refl)

pub telling_accepts : (s : Station) → Sound s → s.round ≤ rounds s.t → telling_verdict s ≡ no_cause
unfolding telling_verdict is_done
telling_accepts s h l =
    rw (sound_accepts s h, ne_eqb s.round (rounds s.t + 1) (λ e. omega arith)) (refused_false _ refl)

pub taking_accepts : (s : Station) (row : List ℕ) → Ready s row → taking_verdict s (length row) ≡ no_cause
unfolding taking_verdict
taking_accepts s row h = rw (telling_accepts s h.sound h.round_left, length_accepts s.n (length row) h.whole)

pub opening_accepts : (n t T sender own value marks : ℕ) → header.Sound n t T sender value marks → 1 ≤ own → own ≤ n
    → opening_verdict n t T sender own value ≡ no_cause
unfolding opening_verdict
opening_accepts n t T sender own value marks h a b =
    rw (line_accepts n t T h.most h.fits, number_accepts n sender h.sender_low h.sender_high, number_accepts n own a b, bit_accepts value h.value_bit)
