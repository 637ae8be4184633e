-- The bits one after another: a bit more is rehearsed, its log stands in its part, and its outcomes are gathered. Assumes nothing.
use Prim.Native.Nat.{ℕ, suc, ◌+◌, ◌-◌, ◌*◌, ◌/◌, ◌%◌, ◌^◌, ◌≤◌, ◌<◌}
use mathlib.Core.Path.{◌≡◌, refl, sym, ap, ◌∙◌}
use mathlib.Core.Bool.{Bool, true, false}
use mathlib.Core.Logic.{◌≢◌, ◌⊎◌, inl, inr}
use mathlib.Core.List.{List, ◌++◌}
use native.Mathlib.Omega.{arith}
use native.Mathlib.Nat.{suc-mul, zero-mul, mod-eq_of_lt, pow-le-pow_right}
use native.Mathlib.Numerals.{add-one}
use lib.Dec.{eqb}
use lib.ListN.{length, get_or, take, drop}
use lib.Seq.{ext_get_or}
use borrow.Author.Tests.{eq-eqb, ne_eqb, eqb-true, eqb-false}
use Rattle.std.specs.Prelude.{if◌then◌else◌}
use Rattle.line.specs.Line.{outcome_size, outcomes_length, table_length}
use Rattle.line.specs.Marks.{marked}
use Rattle.line.specs.Width.{bits, bit_of, tables_length, part_of}
use Rattle.line.proofs.CountLaws.{le_or_lt}
use Rattle.line.proofs.LineLaws.{row_within}
use Rattle.line.proofs.WritingLaws.{spliced, spliced_length, spliced_before, spliced_there}
use Rattle.line.proofs.WidthLaws.{bits_some, bits_most, part_at, part_size}
use Rattle.refusal.specs.Cause.{Verdict, no_cause}
use Rattle.header.specs.Header.{SoundNumber}
use Rattle.header.proofs.HeaderLaws.{header_accepts, length_accepts, bit_sound}
use Rattle.broadcast.specs.Bytes.{log, pick, outcome_byte, outcome_bytes, setting}
use Rattle.broadcast.specs.Guarantees.{Good}
use Rattle.broadcast.specs.Theorems.{value_at, grade_at}
use Rattle.broadcast.proofs.BytesLaws.{tabulate_same, log_size}
use Rattle.number.specs.Digits.{number_of, smallest, any, largest}
use Rattle.number.specs.Numbers.{NumberRun, bit_run, logs, numbers, grades, flags, counts, stations, gathered, bit_outcomes, number_outcomes}
use Rattle.number.proofs.DigitLaws.{number_below, smallest_low}
use Rattle.number.proofs.BufferLaws.{each, gathered_length, value_is, grade_is, flag_is, count_is, bad_byte, all_logs, one_log, first_gathered}
use Rattle.rehearsal.specs.Promise.{run_of, rehearsal_verdict, verdict_of}
use Rattle.recipe.specs.Gathered.{with_bit, joined, added_byte, added, with_bits_below}
use Rattle.recipe.specs.Promise.{RehearsedBit}
use Rattle.recipe.specs.Loops.{Playable, Played, Ran, InTurn}

-- ---- the outcomes of one bit more

module _ (N : NumberRun) (b : ℕ) (narrow : b < 8) where
  below : List ℕ
  below = gathered N.n N.marks b (bit_outcomes N)

  module _ (i : ℕ) (g : Good N.n (marked N.marks) i) where
    -- the number of the bits below, and a bit more, fit a byte
    number_more : with_bit b (value_at (bit_outcomes N b) i) (numbers b (bit_outcomes N) i) ≡ numbers (suc b) (bit_outcomes N) i
    unfolding with_bit numbers number_of
    number_more =
        let l = number_below (suc b) (λ (c : ℕ). value_at (bit_outcomes N c) i) (λ c _. (each N i g c).0) in
        let p : 2 ^ suc b ≤ 256 = pow-le-pow_right {n = 2} (omega arith) {i = suc b} {j = 8} (omega arith) in
        let e : number_of b (λ (c : ℕ). value_at (bit_outcomes N c) i) + value_at (bit_outcomes N b) i * 2 ^ b ≡ value_at (bit_outcomes N b) i * 2 ^ b + number_of b (λ (c : ℕ). value_at (bit_outcomes N c) i) = omega arith in
        rw e (mod-eq_of_lt (omega arith))

    not_bad : grade_at below i ≢ 255
    unfolding below grades
    not_bad e = omega (arith, smallest_low b (λ (c : ℕ). grade_at (bit_outcomes N c) i), sym (grade_is N.n N.marks b (bit_outcomes N) i g) ∙ e)

    good_more : (d : ℕ) → joined b (bit_outcomes N b) below i d
        ≡ pick (numbers (suc b) (bit_outcomes N) i) (grades (suc b) (bit_outcomes N) i) (flags (suc b) (bit_outcomes N) i) (counts (suc b) (bit_outcomes N) i) d
    unfolding joined below grades flags counts smallest any largest
    good_more d =
        rw (ne_eqb _ 255 not_bad, value_is N.n N.marks b (bit_outcomes N) i g, grade_is N.n N.marks b (bit_outcomes N) i g, flag_is N.n N.marks b (bit_outcomes N) i g, count_is N.n N.marks b (bit_outcomes N) i g, number_more)

  bad_more : (i d : ℕ) → i < N.n → d < outcome_size → marked N.marks i ≡ true → joined b (bit_outcomes N b) below i d ≡ 255
  unfolding joined below
  bad_more i d h l m =
      rw (eq-eqb _ 255 (bad_byte N.n N.marks b (bit_outcomes N) i 1 h (omega arith) m)) (bad_byte N.n N.marks b (bit_outcomes N) i d h l m)

  byte_more : (i d : ℕ) → i < N.n → d < outcome_size → joined b (bit_outcomes N b) below i d
      ≡ (if marked N.marks i then 255 else pick (numbers (suc b) (bit_outcomes N) i) (grades (suc b) (bit_outcomes N) i) (flags (suc b) (bit_outcomes N) i) (counts (suc b) (bit_outcomes N) i) d)
  byte_more i d h l = go (marked N.marks i) refl
    where
      go : (m : Bool) → marked N.marks i ≡ m → joined b (bit_outcomes N b) below i d
          ≡ (if m then 255 else pick (numbers (suc b) (bit_outcomes N) i) (grades (suc b) (bit_outcomes N) i) (flags (suc b) (bit_outcomes N) i) (counts (suc b) (bit_outcomes N) i) d)
      go true e = bad_more i d h l e
      go false e = good_more i (h, e) d

  pub one_more : added b (bit_outcomes N b) (gathered N.n N.marks b (bit_outcomes N)) ≡ gathered N.n N.marks (suc b) (bit_outcomes N)
  unfolding added gathered outcome_bytes outcome_byte stations setting below added_byte
  one_more =
      rw (gathered_length N.n N.marks b (bit_outcomes N))
      (tabulate_same (outcomes_length N.n) _ _ (λ k h. byte_more (k / outcome_size) (k % outcome_size) (omega arith) (omega arith)))

-- ---- a bit more

-- bit b with a log of its length, where the outcomes of the bits below are gathered
module _ (N : NumberRun) (sound : SoundNumber N.n N.t N.T N.sender N.number N.w N.marks)
    (tables_whole : length N.tables ≡ tables_length N.n N.t N.w)
    (b : ℕ) (more : b < bits N.w) (part results : List ℕ) (part_whole : length part ≡ table_length N.n N.t)
    (so_far : 1 ≤ b → results ≡ gathered N.n N.marks b (bit_outcomes N)) (results_whole : length results ≡ outcomes_length N.n) where
  narrow : b < 8
  narrow = omega (arith, more, bits_most N.w sound.narrow)

  -- nothing refuses it
  bit_accepted : verdict_of (bit_run N b) part results ≡ no_cause
  unfolding rehearsal_verdict bit_run
  bit_accepted =
      rw (header_accepts _ _ _ _ _ _ (bit_sound N.n N.t N.T N.sender N.number N.w N.marks sound b), length_accepts _ _ (part_size (table_length N.n N.t) N.tables b (bits N.w) more tables_whole), length_accepts _ _ part_whole, length_accepts _ _ results_whole)

  module _ (part₁ results₁ : List ℕ) (answer : Verdict) (Q : RehearsedBit b (bit_run N b) part part₁ results results₁ answer) where
    taken : answer ≡ no_cause
    taken = Q.judged.answer_is ∙ bit_accepted

    bit_log : part₁ ≡ log (bit_run N b)
    bit_log = Q.log_is ∙ rw taken refl

    its_results : results₁ ≡ with_bits_below b (bit_outcomes N b) results
    unfolding bit_outcomes
    its_results = Q.outcomes_are ∙ rw taken refl

    gathered_more : (c : Bool) → eqb b 0 ≡ c → results₁ ≡ gathered N.n N.marks (suc b) (bit_outcomes N)
    unfolding with_bits_below
    gathered_more true e = its_results ∙ rw (eqb-true b 0 e) (sym (first_gathered N))
    gathered_more false e =
        let some : 1 ≤ b = omega (arith, eqb-false b 0 e) in
        its_results ∙ rw (e, so_far some) (one_more N b narrow)

    bit_gathered : results₁ ≡ gathered N.n N.marks (suc b) (bit_outcomes N)
    bit_gathered = gathered_more (eqb b 0) refl

-- ---- the bits in turn, with one log

pub none_in_turn : (N : NumberRun) (bytes results : List ℕ) → length bytes ≡ table_length N.n N.t → length results ≡ outcomes_length N.n
    → InTurn N 0 bytes results
none_in_turn N bytes results a b =
    record { log_whole = a; log_is = λ l. absurd (omega arith); outcomes_whole = b; outcomes_are = λ l. absurd (omega arith) }

pub one_more_in_turn : (N : NumberRun) → SoundNumber N.n N.t N.T N.sender N.number N.w N.marks
    → length N.tables ≡ tables_length N.n N.t N.w → (b : ℕ) → b < bits N.w
    → (bytes results bytes₁ results₁ : List ℕ) (answer : Verdict)
    → InTurn N b bytes results → RehearsedBit b (bit_run N b) bytes bytes₁ results results₁ answer → InTurn N (b + 1) bytes₁ results₁
unfolding bit_run
one_more_in_turn N sound whole b more bytes results bytes₁ results₁ answer P Q =
    let back : b + 1 - 1 ≡ b = omega arith in
    let its_log = bit_log N sound whole b more bytes results P.log_whole P.outcomes_are P.outcomes_whole bytes₁ results₁ answer Q in
    let its_results = bit_gathered N sound whole b more bytes results P.log_whole P.outcomes_are P.outcomes_whole bytes₁ results₁ answer Q in
    record {
      log_whole = ap length its_log ∙ log_size (bit_run N b);
      log_is = λ _. rw back its_log;
      outcomes_whole = ap length its_results ∙ gathered_length N.n N.marks (suc b) (bit_outcomes N);
      outcomes_are = λ _. rw (add-one b) its_results;
    }

-- ---- with logs for all bits

module _ (N : NumberRun) (logs₀ outcomes₀ : List ℕ) (ready : Playable N logs₀ outcomes₀) where
  module _ (b : ℕ) (more : b < bits N.w) (bytes results : List ℕ) (P : Played N b bytes results) where
    its_room : b * table_length N.n N.t + table_length N.n N.t ≤ length bytes
    its_room = rw P.logs_whole (row_within b (table_length N.n N.t) (bits N.w) more)

    its_part : length (part_of (table_length N.n N.t) bytes b) ≡ table_length N.n N.t
    its_part = part_size (table_length N.n N.t) bytes b (bits N.w) more P.logs_whole

    module _ (part₁ results₁ : List ℕ) (answer : Verdict)
        (Q : RehearsedBit b (bit_run N b) (part_of (table_length N.n N.t) bytes b) part₁ results results₁ answer) where
      its_log : part₁ ≡ log (bit_run N b)
      its_log =
          bit_log N ready.header ready.tables_whole b more (part_of (table_length N.n N.t) bytes b) results its_part P.gathered_are P.outcomes_whole
          part₁ results₁ answer Q

      its_gathered : results₁ ≡ gathered N.n N.marks (suc b) (bit_outcomes N)
      its_gathered =
          bit_gathered N ready.header ready.tables_whole b more (part_of (table_length N.n N.t) bytes b) results its_part P.gathered_are P.outcomes_whole
          part₁ results₁ answer Q

      its_size : length part₁ ≡ table_length N.n N.t
      its_size = ap length (its_log ∙ sym (one_log N b more)) ∙ part_size (table_length N.n N.t) (logs N) b (bits N.w) more (all_logs N)

      log_there : (k : ℕ) → k < table_length N.n N.t → get_or (spliced bytes part₁ (b * table_length N.n N.t) (table_length N.n N.t)) (b * table_length N.n N.t + k) 0 ≡ get_or (logs N) (b * table_length N.n N.t + k) 0
      log_there k h =
          spliced_there bytes part₁ (b * table_length N.n N.t) (table_length N.n N.t) its_room its_size k h
          ∙ rw (its_log, ← one_log N b more) (part_at (table_length N.n N.t) (logs N) b k h)

      has : (k : ℕ) → k < suc b * table_length N.n N.t → (b * table_length N.n N.t ≤ k) ⊎ (k < b * table_length N.n N.t) → get_or (spliced bytes part₁ (b * table_length N.n N.t) (table_length N.n N.t)) k 0 ≡ get_or (logs N) k 0
      has k h (inr l) = spliced_before bytes part₁ (b * table_length N.n N.t) (table_length N.n N.t) its_room its_size k l ∙ P.logs_have k l
      has k h (inl l) =
          let d : b * table_length N.n N.t + (k - b * table_length N.n N.t) ≡ k = omega arith in
          rw d at (log_there (k - b * table_length N.n N.t) (omega (arith, suc-mul b (table_length N.n N.t))))

      pub bit_played : Played N (suc b) (spliced bytes part₁ (b * table_length N.n N.t) (table_length N.n N.t)) results₁
      bit_played = record {
        logs_have = λ k h. has k h (le_or_lt (b * table_length N.n N.t) k);
        logs_whole = spliced_length bytes part₁ (b * table_length N.n N.t) (table_length N.n N.t) its_room its_size ∙ P.logs_whole;
        gathered_are = λ _. its_gathered;
        outcomes_whole = ap length its_gathered ∙ gathered_length N.n N.marks (suc b) (bit_outcomes N);
      }

  -- ---- before the first bit, and after the last

  pub none_played : Played N 0 logs₀ outcomes₀
  none_played = record {
    logs_have = λ k l. absurd (omega (arith, zero-mul (table_length N.n N.t)));
    logs_whole = ready.logs_whole;
    gathered_are = λ h. absurd (omega arith);
    outcomes_whole = ready.outcomes_whole;
  }

  pub all_played : (bytes results : List ℕ) → Played N (bits N.w) bytes results → Ran N bytes results
  unfolding number_outcomes
  all_played bytes results P = record {
    logs_are = ext_get_or 0 bytes (logs N) (P.logs_whole ∙ sym (all_logs N)) (λ k h. P.logs_have k (rw P.logs_whole at h));
    outcomes_are = P.gathered_are (bits_some N.w);
  }

  -- ---- as the code lends the parts: k bytes from `from` on

  module _ (b : ℕ) (more : b < bits N.w) (bytes results : List ℕ) (P : Played N b bytes results) (part₁ results₁ : List ℕ) (answer : Verdict) where
    pub turn_played : (from k : ℕ) → from ≡ b * table_length N.n N.t → k ≡ table_length N.n N.t
        → RehearsedBit b (run_of N.n N.t N.T N.sender (bit_of N.number b) N.marks (take k (drop from N.tables))) (take k (drop from bytes)) part₁ results results₁ answer
        → Played N (b + 1) (take from bytes ++ (part₁ ++ drop k (drop from bytes))) results₁
    unfolding bit_run part_of
    turn_played from k e q Q = rw (add-one b, e, q) (bit_played b more bytes results P part₁ results₁ answer (rw (e, q) at Q))
