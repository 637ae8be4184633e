-- Laws of the judgement: nothing is refused exactly if every number is as document 01 wants it. Assumes nothing.
use Prim.Native.Nat.{ℕ, ◌+◌, ◌*◌, ◌^◌, ◌≤◌, ◌<◌}
use Rattle.refusal.specs.Cause.{no_cause}
use mathlib.Core.Path.{◌≡◌, refl}
use mathlib.Core.Bool.{Bool, true, false}
use native.Mathlib.Omega.{arith}
use lib.Dec.{leb, ltb, eqb}
use borrow.Author.Tests.{leb-false, ltb-false, le-ltb, lt-leb, eqb-true, eq-eqb, not-false}
use Rattle.line.specs.Line.{Fits, most_stations}
use Rattle.line.specs.Marks.{marked, mark_beyond}
use Rattle.line.specs.Width.{most_bits, bits, bit_of}
use Rattle.header.specs.Header.{outside, exceeded, station_count, thresholds, station_number, bit, marks_within, exact_length, line_verdict, header_verdict, width, number_within, number_verdict, Sound, SoundNumber}
use Rattle.line.proofs.MarksLaws.{beyond_none, beyond_some}
use Rattle.line.proofs.WidthLaws.{bit_small}
use Rattle.refusal.proofs.VerdictLaws.{refused_false, accepted_false, both_accepted, neither}

-- ---- the tests

pub inside : (low high x : ℕ) → outside low high x ≡ false → (low ≤ x) × (x ≤ high)
unfolding outside
inside low high x e =
    let (a, b) = neither (ltb x low) (ltb high x) e in (ltb-false x low a, ltb-false high x b)

pub inside_not : (low high x : ℕ) → low ≤ x → x ≤ high → outside low high x ≡ false
unfolding outside
inside_not low high x a b = rw (le-ltb x low a, le-ltb high x b)

pub fitting : (n t T : ℕ) → exceeded n t T ≡ false → Fits n t T
unfolding exceeded
fitting n t T e =
    let (a, b) = neither (ltb T t) (leb n (t + 2 * T)) e in
    record { order = ltb-false T t a; room = leb-false n (t + 2 * T) b }

pub fitting_not : (n t T : ℕ) → Fits n t T → exceeded n t T ≡ false
unfolding exceeded
fitting_not n t T f = rw (le-ltb T t f.order, lt-leb n (t + 2 * T) f.room)

-- a length that is not refused is the one wanted
pub length_exact : (wanted found : ℕ) → exact_length wanted found ≡ no_cause → found ≡ wanted
unfolding exact_length
length_exact wanted found e = eqb-true found wanted (not-false (eqb found wanted) (accepted_false _ _ e))

within_not : (n marks : ℕ) → ((i : ℕ) → n ≤ i → marked marks i ≡ false) → mark_beyond n marks ≡ false
within_not n marks h = go (mark_beyond n marks) refl
  where
    go : (b : Bool) → mark_beyond n marks ≡ b → b ≡ false
    go false e = refl
    go true e = let (i, l, m) = beyond_some n marks e in let g : marked marks i ≡ false = h i l in cc

-- ---- each verdict, where its number is as it should be

count_accepts : (n : ℕ) → 1 ≤ n → n ≤ most_stations → station_count n ≡ no_cause
unfolding station_count
count_accepts n a b = refused_false _ (inside_not 1 most_stations n a b)

thresholds_accept : (n t T : ℕ) → Fits n t T → thresholds n t T ≡ no_cause
unfolding thresholds
thresholds_accept n t T f = refused_false _ (fitting_not n t T f)

pub number_accepts : (n i : ℕ) → 1 ≤ i → i ≤ n → station_number n i ≡ no_cause
unfolding station_number
number_accepts n i a b = refused_false _ (inside_not 1 n i a b)

pub bit_accepts : (v : ℕ) → v ≤ 1 → bit v ≡ no_cause
unfolding bit
bit_accepts v h = refused_false _ (le-ltb 1 v h)

width_accepts : (w : ℕ) → w ≤ most_bits → width w ≡ no_cause
unfolding width
width_accepts w h = refused_false _ (le-ltb most_bits w h)

small_accepts : (w number : ℕ) → number < 2 ^ bits w → number_within w number ≡ no_cause
unfolding number_within
small_accepts w number h = refused_false _ (lt-leb (2 ^ bits w) number h)

marks_accept : (n marks : ℕ) → ((i : ℕ) → n ≤ i → marked marks i ≡ false) → marks_within n marks ≡ no_cause
unfolding marks_within
marks_accept n marks h = refused_false _ (within_not n marks h)

pub length_accepts : (wanted found : ℕ) → found ≡ wanted → exact_length wanted found ≡ no_cause
unfolding exact_length
length_accepts wanted found e = refused_false _ (rw (eq-eqb found wanted e))

-- ---- causes 2 and 3

pub line_sound : (n t T : ℕ) → line_verdict n t T ≡ no_cause → (1 ≤ n) × (n ≤ most_stations) × Fits n t T
unfolding line_verdict station_count thresholds
line_sound n t T e =
    let (a, b) = both_accepted _ _ e in
    let (some, most) = inside 1 most_stations n (accepted_false _ _ a) in (some, most, fitting n t T (accepted_false _ _ b))

pub line_accepts : (n t T : ℕ) → n ≤ most_stations → Fits n t T → line_verdict n t T ≡ no_cause
unfolding line_verdict
line_accepts n t T h fits =
    rw (count_accepts n (omega (arith, fits)) h, thresholds_accept n t T fits)

-- ---- the whole header

module _ (n t T sender value marks : ℕ) where
  -- nothing is refused: every number is as it should be
  pub header_sound : header_verdict n t T sender value marks ≡ no_cause → Sound n t T sender value marks
  unfolding header_verdict station_number bit marks_within
  header_sound e =
      let (a, e₂) = both_accepted _ _ e in
      let (c, e₃) = both_accepted _ _ e₂ in
      let (d, m) = both_accepted _ _ e₃ in
      let (some, most, fits) = line_sound n t T a in
      let from = inside 1 n sender (accepted_false _ _ c) in
      record {
        some = some;
        most = most;
        fits = fits;
        sender_low = from.0;
        sender_high = from.1;
        value_bit = ltb-false 1 value (accepted_false _ _ d);
        within = λ i h. beyond_none n marks i (accepted_false _ _ m) h;
      }

  -- every number is as it should be: nothing is refused
  pub header_accepts : Sound n t T sender value marks → header_verdict n t T sender value marks ≡ no_cause
  unfolding header_verdict
  header_accepts s =
      rw (line_accepts n t T s.most s.fits, number_accepts n sender s.sender_low s.sender_high, bit_accepts value s.value_bit, marks_accept n marks s.within)

-- ---- of a recipe number

module _ (n t T sender number w marks : ℕ) where
  pub number_sound : number_verdict n t T sender number w marks ≡ no_cause → SoundNumber n t T sender number w marks
  unfolding number_verdict width station_number number_within marks_within
  number_sound e =
      let (u, e₁) = both_accepted _ _ e in
      let (a, e₂) = both_accepted _ _ e₁ in
      let (c, e₃) = both_accepted _ _ e₂ in
      let (d, m) = both_accepted _ _ e₃ in
      let (some, most, fits) = line_sound n t T a in
      let from = inside 1 n sender (accepted_false _ _ c) in
      record {
        narrow = ltb-false most_bits w (accepted_false _ _ u);
        some = some;
        most = most;
        fits = fits;
        sender_low = from.0;
        sender_high = from.1;
        small = leb-false (2 ^ bits w) number (accepted_false _ _ d);
        within = λ i h. beyond_none n marks i (accepted_false _ _ m) h;
      }

  pub number_verdict_accepts : SoundNumber n t T sender number w marks → number_verdict n t T sender number w marks ≡ no_cause
  unfolding number_verdict
  number_verdict_accepts s =
      rw (width_accepts w s.narrow, line_accepts n t T s.most s.fits, number_accepts n sender s.sender_low s.sender_high, small_accepts w number s.small, marks_accept n marks s.within)

  -- each bit is a value
  pub bit_sound : SoundNumber n t T sender number w marks → (b : ℕ) → Sound n t T sender (bit_of number b) marks
  bit_sound s b = record {
    some = s.some;
    most = s.most;
    fits = s.fits;
    sender_low = s.sender_low;
    sender_high = s.sender_high;
    value_bit = bit_small number b;
    within = s.within;
  }
