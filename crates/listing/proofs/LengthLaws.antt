-- Laws of the text's length: an accepted sheet has at most 32 stations, and so its numbers have at most two digits; of an outcome the recipe number may have
-- three and the count two, the count only where a station is bad; and the stations below 10 have a line that is a byte shorter. Assumes nothing.
use Prim.Native.Nat.{ℕ, zero, suc, ◌+◌, ◌-◌, ◌*◌, ◌≤◌, ◌<◌}
use Rattle.std.specs.declared.result.Result.TheVariants.{Ok, Err}
use mathlib.Core.Path.{◌≡◌, refl}
use mathlib.Core.Bool.{Bool, true, false, not}
use mathlib.Core.Logic.{◌⊎◌, inl, inr}
use mathlib.Core.List.{List}
use native.Mathlib.Omega.{arith}
use lib.Dec.{ltb}
use lib.ListN.{length, length-append}
use native.Mathlib.Nat.{mul-suc, eq-or-lt_of_le, eq-zero-or-pos}
use borrow.Author.Tests.{ltb-true, ltb-false, not-false}
use Rattle.line.specs.Count.{count}
use Rattle.line.proofs.CountLaws.{none_passes, witness, count_not}
use Rattle.line.specs.Line.{rounds}
use Rattle.line.specs.Marks.{marked}
use Rattle.refusal.specs.Cause.{number, no_cause}
use Rattle.refusal.specs.Cause.{Verdict}
use Rattle.refusal.proofs.VerdictLaws.{both_accepted}
use Rattle.broadcast.specs.Station.{at}
use Rattle.broadcast.specs.Theorems.{value_at, grade_at, flag_at, garbled_at}
use Rattle.broadcast.proofs.TallyLaws.{flag_bit}
use Rattle.number.specs.Numbers.{NumberRun, number_outcomes}
use Rattle.number.specs.Theorems.{NumberOutcomeBytes}
use Rattle.number.proofs.Theorems.{number_outcome_bytes, none_marked_none_garbled}
use Rattle.header.specs.declared.Header.{Header}
use Rattle.layout.specs.Layout.{header}
use Rattle.layout.specs.Chain.{Fate}
use Rattle.judgement.specs.Judgement.{bit_to_8, chain_verdict, bit_verdict}
use Rattle.reader.specs.Reading.{table_of}
use Rattle.reader.specs.Loops.{SoundHeader}
use Rattle.text.specs.Decimal.{decimal}
use Rattle.text.proofs.DecimalLaws.{one_digit, two_digits, decimal_short}
use Rattle.listing_lines.proofs.LineLaws.{bad_shown, good_shown, refusal_short}
use Rattle.listing_lines.specs.Lines.{first_line, station_line, station_lines, lines_by, run}
use Rattle.listing_lines.specs.Text.{line_text, text}
use Rattle.reader.proofs.PromiseLaws.{bit_sound}
use Rattle.listing.specs.Promise.{lent_verdict, listing}
use Rattle.listing.specs.Theorems.{longest_listing}

-- ---- numbers

-- a station's number, counted from 0: one digit up to station 9
station_digits : (i : ℕ) → i < 99 → length (decimal (i + 1)) + (i - 9) ≤ 1 + (suc i - 9)
station_digits i h = go (ltb i 9) refl
  where
    go : (b : Bool) → ltb i 9 ≡ b → length (decimal (i + 1)) + (i - 9) ≤ 1 + (suc i - 9)
    go true e = let l = ltb-true i 9 e in omega (arith, one_digit (i + 1) (omega arith))
    go false e = let l = ltb-false i 9 e in omega (arith, two_digits (i + 1) (omega arith))

-- ---- lines

first_short : (h : Header) → SoundHeader h → length (line_text (first_line h)) ≤ 21
first_short h sound =
    let fits = sound.fits in
    let n = two_digits h.line.n (omega (arith, sound.most)) in
    let t = two_digits h.line.t (omega (arith, sound.most, fits.order, fits.room)) in
    let upper = two_digits h.line.upper (omega (arith, sound.most, fits.room)) in
    let sender = two_digits h.sender (omega (arith, sound.most, sound.sender_high)) in
    let last = two_digits (rounds h.line.t) (omega (arith, sound.most, fits.order, fits.room)) in
    simp length-append (omega arith)

-- the stations of a number's run, with counts of at most `digits` digits
module _ (N : NumberRun) (most : N.n ≤ 32) (digits : ℕ) (some : 1 ≤ digits)
    (counts : (i : ℕ) → i < N.n → marked N.marks i ≡ false → length (decimal (garbled_at (number_outcomes N) i)) ≤ digits) where
  shown : NumberOutcomeBytes N
  shown = number_outcome_bytes N

  bad_short : (i : ℕ) → i < N.n → marked N.marks i ≡ true → length (line_text (station_line (number_outcomes N) i)) + (i - 9) ≤ 10 + (suc i - 9)
  unfolding at
  bad_short i l e =
      rw (bad_shown (number_outcomes N) i (shown.marked_bytes i l e).1) (simp length-append (omega (arith, station_digits i (omega arith))))

  station_short : (i : ℕ) → i < N.n → length (line_text (station_line (number_outcomes N) i)) + (i - 9) ≤ 11 + digits + (suc i - 9)
  unfolding at
  station_short i l = go (marked N.marks i) refl
    where
      go : (bad : Bool) → marked N.marks i ≡ bad → length (line_text (station_line (number_outcomes N) i)) + (i - 9) ≤ 11 + digits + (suc i - 9)
      go true e = omega (arith, bad_short i l e)
      go false e =
          let (v, g, f, k) = shown.good i (l, e) in
          let value = decimal_short (value_at (number_outcomes N) i) in
          let grade = one_digit (grade_at (number_outcomes N) i) (omega arith) in
          let flag = one_digit (flag_at (number_outcomes N) i) (omega (arith, flag_bit (grade_at (number_outcomes N) i))) in
          rw (good_shown (number_outcomes N) i (λ q. omega (arith, g, q)))
          (simp length-append (omega (arith, station_digits i (omega arith), value, grade, flag, counts i l e)))

  -- the lines of stations that have one digit are a byte shorter
  stations_short : (m i : ℕ) → i + m ≤ N.n → length (text (station_lines (number_outcomes N) i m)) + (i - 9) ≤ (11 + digits) * m + (i + m - 9)
  unfolding station_lines
  stations_short zero i l = omega arith
  stations_short (suc m) i l =
      simp length-append (omega (arith, mul-suc (11 + digits) m, station_short i (omega arith), stations_short m (suc i) (omega arith)))

  -- and with counts of two digits the line of a bad one is three bytes shorter
  stations_shorter : 2 ≤ digits → (m i k : ℕ) → i + m ≤ N.n → i ≤ k → k < i + m → marked N.marks k ≡ true
      → length (text (station_lines (number_outcomes N) i m)) + 3 + (i - 9) ≤ (11 + digits) * m + (i + m - 9)
  unfolding station_lines
  stations_shorter two zero i k l a b e = absurd (omega arith)
  stations_shorter two (suc m) i k l a b e = go (eq-or-lt_of_le a) (λ q. stations_shorter two m (suc i) k (omega arith) q (omega arith) e)
    where
      go : (i ≡ k) ⊎ (i < k) → (suc i ≤ k → length (text (station_lines (number_outcomes N) (suc i) m)) + 3 + (suc i - 9) ≤ (11 + digits) * m + (suc i + m - 9))
          → length (text (station_lines (number_outcomes N) i (suc m))) + 3 + (i - 9) ≤ (11 + digits) * suc m + (i + suc m - 9)
      go (inl q) ih =
          let here = bad_short i (omega arith) (rw (← q) at e) in
          simp length-append (omega (arith, mul-suc (11 + digits) m, here, stations_short m (suc i) (omega arith)))
      go (inr q) ih = simp length-append (omega (arith, mul-suc (11 + digits) m, station_short i (omega arith), ih q))

-- ---- the lines of a run, whatever its tables are

module _ (h : Header) (tables : List ℕ) (sound : SoundHeader h) where
  -- the stations' lines: no station is bad, and every count is 0; or one is, and a count is at most R
  lines_short : length (text (station_lines (number_outcomes (run h tables)) 0 h.line.n)) ≤ 436
  lines_short = go (eq-zero-or-pos (count N.n (marked N.marks)))
    where
      N : NumberRun
      N = run h tables

      few : rounds N.t < 100
      few = omega (arith, sound.most, sound.fits.order, sound.fits.room)

      go : (count N.n (marked N.marks) ≡ 0) ⊎ (0 < count N.n (marked N.marks))
          → length (text (station_lines (number_outcomes N) 0 N.n)) ≤ 436
      go (inl none) =
          let unmarked = none_passes N.n (marked N.marks) none in
          let zero_count : (i : ℕ) → i < N.n → marked N.marks i ≡ false → length (decimal (garbled_at (number_outcomes N) i)) ≤ 1
          = λ i l _. rw (none_marked_none_garbled N unmarked i l) (omega (arith, one_digit 0 (omega arith))) in
          omega (arith, sound.most, stations_short N sound.most 1 (omega arith) zero_count N.n 0 (omega arith))
      go (inr some) =
          let (k, l, e) = witness N.n (λ i. not (marked N.marks i)) (omega (arith, count_not N.n (marked N.marks))) in
          let two : (i : ℕ) → i < N.n → marked N.marks i ≡ false → length (decimal (garbled_at (number_outcomes N) i)) ≤ 2
          = λ i m g. two_digits (garbled_at (number_outcomes N) i) (omega (arith, ((number_outcome_bytes N).good i (m, g)).3, few)) in
          omega (arith, sound.most, stations_shorter N sound.most 2 (omega arith) two (omega arith) N.n 0 k (omega arith) (omega arith) (omega arith) (not-false _ e))

  pub run_short : length (text (lines_by no_cause h (number_outcomes (run h tables)))) ≤ longest_listing
  run_short =
      let first = line_text (first_line h) in
      let rest = text (station_lines (number_outcomes (run h tables)) 0 h.line.n) in
      omega (arith, length-append first rest, first_short h sound, lines_short)

-- ---- a listing

module _ (s : List ℕ) (lent : ℕ) (fate : Fate s) where
  sound_if : lent_verdict s lent fate ≡ no_cause → SoundHeader (header s)
  unfolding bit_verdict
  sound_if e = bit_sound s 0 lent (both_accepted (bit_to_8 s 0 lent) (chain_verdict s fate) e).0

  pub listing_short : length (listing s lent fate) ≤ longest_listing
  unfolding listing
  listing_short = go (lent_verdict s lent fate) refl
    where
      go : (v : Verdict) → lent_verdict s lent fate ≡ v → length (text (lines_by v (header s) (number_outcomes (run (header s) (table_of s fate))))) ≤ longest_listing
      go (Ok _) e = run_short (header s) (table_of s fate) (sound_if e)
      go (Err c) e = omega (arith, refusal_short (number c))
