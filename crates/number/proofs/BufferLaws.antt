-- Tables, logs and outcomes of a number: what stands where, and one bit as a broadcast. Assumes nothing.
use Prim.Native.Nat.{ℕ, ◌+◌, ◌*◌, ◌/◌, ◌%◌, ◌^◌, ◌≤◌, ◌<◌}
use mathlib.Core.Path.{◌≡◌, refl, sym, ap, ◌∙◌}
use mathlib.Core.Bool.{true, false}
use mathlib.Core.List.{List}
use native.Mathlib.Omega.{arith}
use native.Mathlib.Nat.{le_of_eq}
use lib.ListN.{length, get_or}
use lib.Seq.{ext_get_or}
use lib.Arith.{digits_lt, digits_div, digits_mod}
use Rattle.line.specs.Line.{from_0, rounds, table_length, outcome_size, outcomes_length, place}
use Rattle.line.specs.Marks.{marked}
use Rattle.line.specs.Width.{bits, bit_of, tables_length, part_of}
use Rattle.line.proofs.CountLaws.{if_true}
use Rattle.line.proofs.LineLaws.{place_below}
use Rattle.line.proofs.WidthLaws.{bits_one, bit_small, part_at, part_size, part_whole}
use Rattle.broadcast.specs.Exchange.{flag_of}
use Rattle.broadcast.specs.Broadcast.{value_of, final_grade, final_flag}
use Rattle.broadcast.specs.Garbled.{garbled_rounds}
use Rattle.broadcast.specs.Station.{at}
use Rattle.broadcast.specs.Bytes.{setting, setting_of, log_byte, log, outcomes}
use Rattle.broadcast.specs.Guarantees.{Good}
use Rattle.broadcast.specs.Theorems.{value_at, grade_at, flag_at, garbled_at}
use Rattle.broadcast.proofs.BytesLaws.{length_tabulate, get_d_tabulate, outcome_length, byte_of, good_value, good_grade, good_flag, good_count, outcomes_same, outcome_ranges_of}
use Rattle.broadcast.proofs.TallyLaws.{flag_bit}
use Rattle.broadcast.proofs.Theorems.{none_marked_none_garbled}
use Rattle.number.specs.Numbers.{NumberRun, bit_run, logs, numbers, grades, flags, counts, stations, gathered, bit_outcomes, number_outcomes}
use Rattle.number.specs.Theorems.{NumberOutcomeBytes, NoneMarkedNoneGarbled, BitBuffers, as_run}
use Rattle.number.proofs.DigitLaws.{digits, number_same, smallest_same, any_same, largest_same, smallest_low, smallest_least, any_is, largest_within, largest_most, number_one, smallest_one, any_one_bit, largest_one}

-- ---- the bits' outcomes

module _ (N : NumberRun) (i : ℕ) (g : Good N.n (marked N.marks) i) where
  -- what each bit's outcome bytes are
  pub each : (b : ℕ) → (value_at (bit_outcomes N b) i ≤ 1) × (grade_at (bit_outcomes N b) i ≤ 2)
      × (flag_at (bit_outcomes N b) i ≡ flag_of (grade_at (bit_outcomes N b) i))
  unfolding bit_outcomes bit_run
  each b = (outcome_ranges_of (bit_run N b)).good i g

  few : (b : ℕ) → garbled_at (bit_outcomes N b) i ≤ rounds N.t
  unfolding bit_outcomes bit_run
  few b = (outcome_ranges_of (bit_run N b)).good_count i g

-- ---- w bits' outcomes together

module _ (n marks w : ℕ) (results : ℕ → List ℕ) where
  pub gathered_length : length (gathered n marks w results) ≡ outcomes_length n
  unfolding gathered stations setting
  gathered_length = outcome_length (stations n marks) _ _ _ _

  pub value_is : (i : ℕ) → Good n (marked marks) i → value_at (gathered n marks w results) i ≡ numbers w results i
  unfolding gathered stations setting
  value_is i g = good_value (stations n marks) _ _ _ _ i g

  pub grade_is : (i : ℕ) → Good n (marked marks) i → grade_at (gathered n marks w results) i ≡ grades w results i
  unfolding gathered stations setting
  grade_is i g = good_grade (stations n marks) _ _ _ _ i g

  pub flag_is : (i : ℕ) → Good n (marked marks) i → flag_at (gathered n marks w results) i ≡ flags w results i
  unfolding gathered stations setting
  flag_is i g = good_flag (stations n marks) _ _ _ _ i g

  pub count_is : (i : ℕ) → Good n (marked marks) i → garbled_at (gathered n marks w results) i ≡ counts w results i
  unfolding gathered stations setting
  count_is i g = good_count (stations n marks) _ _ _ _ i g

  pub bad_byte : (i d : ℕ) → i < n → d < outcome_size → marked marks i ≡ true → at (gathered n marks w results) (outcome_size * i + d) ≡ 255
  unfolding gathered stations setting
  bad_byte i d h l b = byte_of (stations n marks) _ _ _ _ i d h l ∙ if_true _ _ b

-- bits with the same outcomes make the same
pub gathered_same : (n marks w : ℕ) (results results' : ℕ → List ℕ) → ((b : ℕ) → b < w → results b ≡ results' b)
    → gathered n marks w results ≡ gathered n marks w results'
unfolding gathered numbers grades flags counts
gathered_same n marks w results results' e =
    outcomes_same (stations n marks) (stations n marks) _ _ _ _ _ _ _ _ refl (λ i. refl)
    (λ i g. (
      number_same w _ _ (λ b l. ap (λ (r : List ℕ). value_at r i) (e b l)),
      smallest_same w _ _ (λ b l. ap (λ (r : List ℕ). grade_at r i) (e b l)),
      any_same w _ _ (λ b l. ap (λ (r : List ℕ). flag_at r i) (e b l)),
      largest_same w _ _ (λ b l. ap (λ (r : List ℕ). garbled_at r i) (e b l)),
    ))

-- ---- of a run

module _ (N : NumberRun) (i : ℕ) (g : Good N.n (marked N.marks) i) where
  below : numbers (bits N.w) (bit_outcomes N) i < 2 ^ bits N.w
  unfolding numbers
  below = (digits (bits N.w)).below _ (λ b _. (each N i g b).0)

  its_bit : (b : ℕ) → b < bits N.w → bit_of (numbers (bits N.w) (bit_outcomes N) i) b ≡ value_at (outcomes (bit_run N b)) i
  unfolding numbers bit_outcomes
  its_bit = (digits (bits N.w)).bit _ (λ b _. (each N i g b).0)

  flagged : flags (bits N.w) (bit_outcomes N) i ≡ flag_of (grades (bits N.w) (bit_outcomes N) i)
  unfolding flags grades
  flagged = any_is (bits N.w) _ _ (λ b _. (each N i g b).1) (λ b _. (each N i g b).2)

  low : grades (bits N.w) (bit_outcomes N) i ≤ 2
  unfolding grades
  low = smallest_low (bits N.w) _

  least : (b : ℕ) → b < bits N.w → grades (bits N.w) (bit_outcomes N) i ≤ grade_at (outcomes (bit_run N b)) i
  unfolding grades bit_outcomes
  least b l = smallest_least (bits N.w) _ b l

  short : counts (bits N.w) (bit_outcomes N) i ≤ rounds N.t
  unfolding counts
  short = largest_within (bits N.w) _ (rounds N.t) (λ b _. few N i g b)

  most : (b : ℕ) → b < bits N.w → garbled_at (outcomes (bit_run N b)) i ≤ counts (bits N.w) (bit_outcomes N) i
  unfolding counts bit_outcomes
  most b l = largest_most (bits N.w) _ b l

bad_bytes : (N : NumberRun) (i : ℕ) → i < N.n → marked N.marks i ≡ true
    → (value_at (number_outcomes N) i ≡ 255) × (grade_at (number_outcomes N) i ≡ 255) × (flag_at (number_outcomes N) i ≡ 255)
    × (garbled_at (number_outcomes N) i ≡ 255)
unfolding number_outcomes
bad_bytes N i h b =
    let byte : (d : ℕ) → d < outcome_size → at (gathered N.n N.marks (bits N.w) (bit_outcomes N)) (outcome_size * i + d) ≡ 255 =
    λ d l. bad_byte N.n N.marks (bits N.w) (bit_outcomes N) i d h l b in
    let e : outcome_size * i + 0 ≡ outcome_size * i = omega arith in
    (rw e at (byte 0 (omega arith)), byte 1 (omega arith), byte 2 (omega arith), byte 3 (omega arith))

module _ (N : NumberRun) where
  pub number_bytes : NumberOutcomeBytes N
  unfolding number_outcomes
  number_bytes =
      let w = bits N.w in
      let r = bit_outcomes N in
      record {
        size = gathered_length N.n N.marks w r;
        good = λ i g.
            rw (value_is N.n N.marks w r i g, flag_is N.n N.marks w r i g, grade_is N.n N.marks w r i g, count_is N.n N.marks w r i g)
            (below N i g, low N i g, flagged N i g, short N i g);
        bit = λ i g. rw (value_is N.n N.marks w r i g) (its_bit N i g);
        grade_least = λ i g. rw (grade_is N.n N.marks w r i g) (least N i g);
        count_most = λ i g. rw (count_is N.n N.marks w r i g) (most N i g);
        marked_bytes = bad_bytes N;
      }

-- ---- no station is marked

none_in_bit : (N : NumberRun) → ((i : ℕ) → i < N.n → marked N.marks i ≡ false) → (j : ℕ) → j < N.n → (b : ℕ) → garbled_at (bit_outcomes N b) j ≡ 0
unfolding bit_outcomes bit_run
none_in_bit N none j h b = none_marked_none_garbled (bit_run N b) (bit_small N.number b) none j h

pub none_garbled : NoneMarkedNoneGarbled
unfolding number_outcomes counts
none_garbled N none j h =
    count_is N.n N.marks (bits N.w) (bit_outcomes N) j (h, none j h)
    ∙ omega (arith, largest_within (bits N.w) (λ (b : ℕ). garbled_at (bit_outcomes N b) j) 0 (λ b _. le_of_eq (none_in_bit N none j h b)))

-- ---- tables and logs

module _ (N : NumberRun) where
  table_part : (b r i j : ℕ) → 1 ≤ r → r ≤ rounds N.t → i < N.n → j < N.n
      → at (bit_run N b).table (place N.n r i j) ≡ at N.tables (b * table_length N.n N.t + place N.n r i j)
  unfolding at bit_run
  table_part b r i j a l hi hj = part_at _ N.tables b _ (place_below N.n r i j a hi hj (rounds N.t) l)

  pub all_logs : length (logs N) ≡ tables_length N.n N.t N.w
  unfolding logs
  all_logs = length_tabulate _ _

  -- byte k of bit b's part
  pub log_byte_at : (b k : ℕ) → b < bits N.w → k < table_length N.n N.t
      → get_or (logs N) (b * table_length N.n N.t + k) 0 ≡ log_byte (bit_run N b) k
  unfolding logs
  log_byte_at b k l h = get_d_tabulate _ _ _ (digits_lt l h) ∙ rw (digits_div b h, digits_mod b h)

  pub one_log : (b : ℕ) → b < bits N.w → part_of (table_length N.n N.t) (logs N) b ≡ log (bit_run N b)
  unfolding log bit_run
  one_log b l =
      let size = table_length N.n N.t in
      let e = part_size size (logs N) b (bits N.w) l all_logs in
      ext_get_or 0 (part_of size (logs N) b) (log (bit_run N b)) (e ∙ sym (length_tabulate _ _))
      (λ k h. let h' : k < size = rw e at h in part_at size (logs N) b k h' ∙ log_byte_at b k l h' ∙ sym (get_d_tabulate _ _ k h'))

  pub bit_buffers : BitBuffers N
  bit_buffers = record { table = table_part; logs_size = all_logs; log_part = one_log }

-- ---- one bit

-- the first bit's outcomes are its own
pub first_gathered : (N : NumberRun) → gathered N.n N.marks 1 (bit_outcomes N) ≡ bit_outcomes N 0
unfolding bit_outcomes outcomes bit_run gathered stations setting numbers grades flags counts
first_gathered N =
    let S = setting_of (bit_run N 0) in
    let s = from_0 N.sender in
    let u = bit_of N.number 0 in
    let y = value_of S s u in
    let r = final_grade S s u in
    let f = final_flag S s u in
    let c = garbled_rounds S s u in
    outcomes_same (stations N.n N.marks) S _ _ _ _ y r f c refl (λ i. refl)
    (λ i g. (
      number_one _ ∙ good_value S y r f c i g,
      smallest_one _ (each N i g 0).1 ∙ good_grade S y r f c i g,
      any_one_bit _ (rw (each N i g 0).2 (flag_bit _)) ∙ good_flag S y r f c i g,
      largest_one _ ∙ good_count S y r f c i g,
    ))

module _ (N : NumberRun) (one : N.w ≤ 1) where
  outcomes_one : number_outcomes N ≡ outcomes (bit_run N 0)
  unfolding number_outcomes bit_outcomes
  outcomes_one = rw (bits_one N.w one) (first_gathered N)

  module _ (bit : N.number ≤ 1) (sized : length N.tables ≡ table_length N.n N.t) where
    run_one : bit_run N 0 ≡ as_run N
    unfolding bit_run bit_of
    run_one = let e : N.number / 2 ^ 0 % 2 ≡ N.number = omega arith in rw (e, part_whole _ N.tables sized)

    pub one_bit : (number_outcomes N ≡ outcomes (as_run N)) × (logs N ≡ log (as_run N))
    one_bit =
        let size : length (logs N) ≡ table_length N.n N.t = all_logs N ∙ rw (bits_one N.w one) (omega arith) in
        let first : 0 < bits N.w = rw (bits_one N.w one) (omega arith) in
        (rw run_one at outcomes_one, rw (run_one, part_whole _ (logs N) size) at (one_log N 0 first))
