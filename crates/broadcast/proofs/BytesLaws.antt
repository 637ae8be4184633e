-- Logs and outcomes as bytes: what stands where, and the guarantees said of the bytes. Assumes nothing.
use Prim.Native.Nat.{ℕ, zero, suc, ◌+◌, ◌*◌, ◌/◌, ◌%◌, ◌≤◌, ◌<◌}
use mathlib.Core.Path.{◌≡◌, refl, sym, ap, ◌∙◌}
use mathlib.Core.Bool.{Bool, true, false}
use mathlib.Core.List.{List}
use native.Mathlib.Omega.{arith}
use lib.ListN.{length, get_or}
use Rattle.std.specs.Prelude.{if◌then◌else◌}
use Rattle.line.specs.Line.{Fits, from_0, rounds, table_length, outcome_size, outcomes_length, place}
use Rattle.line.specs.Marks.{marked}
use Rattle.line.proofs.CountLaws.{if_true, if_false, count_le}
use Rattle.line.proofs.LineLaws.{place_in_round, place_below, place_round, place_from, place_to}
use Rattle.broadcast.specs.Exchange.{Setting, y, grade, flag_of}
use Rattle.broadcast.specs.Broadcast.{phases, value_of, final_grade, final_flag, y_after, grade_after, first_round, x_after, sent}
use Rattle.broadcast.specs.Garbled.{garbled_rounds, garbled_first, garbled_second, garbled_alone}
use Rattle.broadcast.specs.Station.{at}
use Rattle.broadcast.specs.Bytes.{tabulate, setting, pick, outcome_byte, outcome_bytes, exchange_outcomes, Run, setting_of, log_byte, log, outcomes, column}
use Rattle.broadcast.specs.Guarantees.{Good, GradedConsensus, TwoThreshold}
use Rattle.broadcast.specs.Theorems.{value_at, grade_at, flag_at, garbled_at, Definition6Alone, OutcomeBytes, ExchangeBytes, OutcomeBytesLaw, Demand3}
use Rattle.broadcast.proofs.TallyLaws.{grade_bound}
use Rattle.broadcast.proofs.ExchangeLaws.{y_is_bit, graded_consensus}
use Rattle.broadcast.proofs.BroadcastLaws.{two_threshold}

-- ---- a tabulated list

pub length_tabulate : (m : ℕ) (f : ℕ → ℕ) → length (tabulate m f) ≡ m
unfolding tabulate
length_tabulate zero f = refl
length_tabulate (suc m) f = ap suc (length_tabulate m (λ k. f (suc k)))

pub get_d_tabulate : (m : ℕ) (f : ℕ → ℕ) (k : ℕ) → k < m → get_or (tabulate m f) k 0 ≡ f k
unfolding tabulate
get_d_tabulate zero f k h = absurd (omega arith)
get_d_tabulate (suc m) f zero h = refl
get_d_tabulate (suc m) f (suc k) h = get_d_tabulate m (λ i. f (suc i)) k (omega arith)

pub at_tabulate : (m : ℕ) (f : ℕ → ℕ) (k : ℕ) → k < m → at (tabulate m f) k ≡ f k
unfolding at
at_tabulate = get_d_tabulate

-- a byte of round m + 1, by where that round starts
pub at_in_round : (l : List ℕ) (n m i j : ℕ) → at l (place n (suc m) i j) ≡ get_or l (m * (n * n) + i * n + j) 0
unfolding at
at_in_round l n m i j = ap (λ (k : ℕ). get_or l k 0) (place_in_round n m i j)

pub tabulate_same : (m : ℕ) (f g : ℕ → ℕ) → ((k : ℕ) → k < m → f k ≡ g k) → tabulate m f ≡ tabulate m g
unfolding tabulate
tabulate_same zero f g h = refl
tabulate_same (suc m) f g h =
    rw (h 0 (omega arith), tabulate_same m (λ k. f (suc k)) (λ k. g (suc k)) (λ k l. h (suc k) (omega arith)))

-- ---- a run's sender, and its kings, are stations

pub sender_inside : (R : Run) → 1 ≤ R.sender → R.sender ≤ R.n → from_0 R.sender < (setting_of R).n
unfolding setting
sender_inside R low high = omega arith

pub kings_inside : (R : Run) → Fits R.n R.t R.T → (setting_of R).t < (setting_of R).n
unfolding setting
kings_inside R fits = omega (arith, fits)

-- ---- the log

pub log_size : (R : Run) → length (log R) ≡ table_length R.n R.t
unfolding log
log_size R = length_tabulate _ _

pub log_at : (R : Run) (r i j : ℕ) → 1 ≤ r → r ≤ rounds R.t → i < R.n → j < R.n
    → at (log R) (place R.n r i j) ≡ sent (setting_of R) (from_0 R.sender) R.value r i j
unfolding log log_byte
log_at R r i j h l hi hj =
    at_tabulate _ _ _ (place_below R.n r i j h hi hj (rounds R.t) l)
    ∙ rw (place_round R.n r i j h hi hj, place_from R.n r i j h hi hj, place_to R.n r i j h hi hj)

-- a station's row of bytes laid out like a table
pub column_at : (n : ℕ) (bytes : List ℕ) (j r i : ℕ) → i < n → at (column n bytes j r) i ≡ at bytes (place n r i j)
unfolding column
column_at n bytes j r i h = at_tabulate n _ i h

-- ---- outcomes

module _ (S : Setting) (v g f c : ℕ → ℕ) where
  pub outcome_length : length (outcome_bytes S v g f c) ≡ outcomes_length S.n
  unfolding outcome_bytes
  outcome_length = length_tabulate _ _

  -- byte d of station i
  pub outcome_byte_at : (i d : ℕ) → d < outcome_size
      → outcome_byte S v g f c (outcome_size * i + d) ≡ (if S.bad i then 255 else pick (v i) (g i) (f i) (c i) d)
  unfolding outcome_byte
  outcome_byte_at i d l =
      let m : (outcome_size * i + d) % outcome_size ≡ d = omega arith in
      let q : (outcome_size * i + d) / outcome_size ≡ i = omega arith in
      simp (m, q)

  pub byte_of : (i d : ℕ) → i < S.n → d < outcome_size
      → at (outcome_bytes S v g f c) (outcome_size * i + d) ≡ (if S.bad i then 255 else pick (v i) (g i) (f i) (c i) d)
  unfolding outcome_bytes
  byte_of i d h l = at_tabulate _ _ _ (omega arith) ∙ outcome_byte_at i d l

  value_byte : (i : ℕ) → i < S.n → value_at (outcome_bytes S v g f c) i ≡ (if S.bad i then 255 else v i)
  unfolding pick
  value_byte i h = let e : outcome_size * i ≡ outcome_size * i + 0 = omega arith in rw e (byte_of i 0 h (omega arith))

  pub good_value : (i : ℕ) → Good S.n S.bad i → value_at (outcome_bytes S v g f c) i ≡ v i
  good_value i h = value_byte i h.0 ∙ if_false _ _ h.1

  pub good_grade : (i : ℕ) → Good S.n S.bad i → grade_at (outcome_bytes S v g f c) i ≡ g i
  unfolding pick
  good_grade i h = byte_of i 1 h.0 (omega arith) ∙ if_false _ _ h.1

  pub good_flag : (i : ℕ) → Good S.n S.bad i → flag_at (outcome_bytes S v g f c) i ≡ f i
  unfolding pick
  good_flag i h = byte_of i 2 h.0 (omega arith) ∙ if_false _ _ h.1

  pub good_count : (i : ℕ) → Good S.n S.bad i → garbled_at (outcome_bytes S v g f c) i ≡ c i
  unfolding pick
  good_count i h = byte_of i 3 h.0 (omega arith) ∙ if_false _ _ h.1

  outcome_ranges : (most : ℕ) → ((i : ℕ) → v i ≤ 1) → ((i : ℕ) → g i ≤ 2) → ((i : ℕ) → f i ≡ flag_of (g i)) → ((i : ℕ) → c i ≤ most)
      → OutcomeBytes S.n most S.bad (outcome_bytes S v g f c)
  outcome_ranges most hv hg hf hc = record {
    size = outcome_length;
    good = λ i h. (rw (good_value i h) (hv i), rw (good_grade i h) (hg i), rw (good_flag i h, good_grade i h) (hf i));
    good_count = λ i h. rw (good_count i h) (hc i);
    marked_value = λ i h b. value_byte i h ∙ if_true _ _ b;
    marked_grade = λ i h b. byte_of i 1 h (omega arith) ∙ if_true _ _ b;
    marked_flag = λ i h b. byte_of i 2 h (omega arith) ∙ if_true _ _ b;
    marked_count = λ i h b. byte_of i 3 h (omega arith) ∙ if_true _ _ b;
  }

-- outcomes that agree at the good stations are the same bytes
pub outcomes_same : (S S' : Setting) (v g f c v' g' f' c' : ℕ → ℕ) → S'.n ≡ S.n → ((i : ℕ) → S'.bad i ≡ S.bad i)
    → ((i : ℕ) → Good S.n S.bad i → (v i ≡ v' i) × (g i ≡ g' i) × (f i ≡ f' i) × (c i ≡ c' i))
    → outcome_bytes S v g f c ≡ outcome_bytes S' v' g' f' c'
unfolding outcome_bytes outcome_byte
outcomes_same S S' v g f c v' g' f' c' en eb h =
    rw en
    (tabulate_same (outcomes_length S.n) _ _
    (λ k l. rw (eb (k / outcome_size)) (go (k / outcome_size) (k % outcome_size) (S.bad (k / outcome_size)) refl (omega arith))))
  where
    go : (i d : ℕ) (b : Bool) → S.bad i ≡ b → i < S.n
        → (if b then 255 else pick (v i) (g i) (f i) (c i) d) ≡ (if b then 255 else pick (v' i) (g' i) (f' i) (c' i) d)
    go i d true e l = refl
    go i d false e l = let (p, q, r, s) = h i (l, e) in rw (p, q, r, s)

-- ---- the guarantees hold of whatever agrees at the good stations

same_consensus : (n t T : ℕ) (bad : ℕ → Bool) (x y g y' g' : ℕ → ℕ)
    → ((i : ℕ) → Good n bad i → y' i ≡ y i) → ((i : ℕ) → Good n bad i → g' i ≡ g i)
    → GradedConsensus n t T bad x y g → GradedConsensus n t T bad x y' g'
same_consensus n t T bad x y g y' g' ey eg C = record {
  range = λ i h. rw (ey i h, eg i h) (C.range i h);
  validity = λ f v all i h. rw (ey i h, eg i h) (C.validity f v all i h);
  validity_at_t = λ f v all i h. rw (ey i h, eg i h) (C.validity_at_t f v all i h);
  detection_at_t = λ f i h l j k. rw (ey i h, ey j k) (C.detection_at_t f i h (rw (eg i h) at l) j k);
  detection = λ f i h l j k. rw (ey i h, ey j k) (C.detection f i h (rw (eg i h) at l) j k);
}

pub same_two_threshold : (values n t T : ℕ) (bad : ℕ → Bool) (s v : ℕ) (D F D' F' : ℕ → ℕ)
    → ((i : ℕ) → Good n bad i → D' i ≡ D i) → ((i : ℕ) → Good n bad i → F' i ≡ F i)
    → TwoThreshold values n t T bad s v D F → TwoThreshold values n t T bad s v D' F'
same_two_threshold values n t T bad s v D F D' F' d f P = record {
  range = λ i gi. rw (d i gi, f i gi) (P.range i gi);
  agreement = λ k i j gi gj. rw (d i gi, d j gj) (P.agreement k i j gi gj);
  no_flag = λ k i gi. rw (f i gi) (P.no_flag k i gi);
  extended_validity = λ k gs i gi. rw (d i gi) (P.extended_validity k gs i gi);
  consistency_detection = λ k i j gi gj ne m gm.
      rw (f m gm) (P.consistency_detection k i j gi gj (λ e. ne (d i gi ∙ e ∙ sym (d j gj))) m gm);
  flag_soundness = λ i gi e. P.flag_soundness i gi (sym (f i gi) ∙ e);
}

-- ---- of the bytes

pub graded_consensus_alone : Definition6Alone
unfolding exchange_outcomes setting
graded_consensus_alone n t T marks inputs table fits bits =
    let S = setting n t T marks table in
    same_consensus n t T (marked marks) (at inputs) _ _ _ _
    (good_value S (y S 1 (at inputs)) (grade S 1 (at inputs)) _ _)
    (good_grade S (y S 1 (at inputs)) (grade S 1 (at inputs)) _ _)
    (graded_consensus S fits 1 (at inputs) bits)

pub two_threshold_bytes : Demand3
unfolding outcomes setting
two_threshold_bytes R fits bit =
    same_two_threshold 2 R.n R.t R.T (marked R.marks) (from_0 R.sender) R.value _ _ _ _
    (good_value (setting_of R) _ _ _ _) (good_flag (setting_of R) _ _ _ _)
    (two_threshold (setting_of R) fits (from_0 R.sender) R.value bit)

-- of two rounds at most two are counted
garbled_alone_le : (S : Setting) (x : ℕ → ℕ) (j : ℕ) → garbled_alone S x j ≤ 2
unfolding garbled_alone
garbled_alone_le S x j = go (garbled_second S x j) (garbled_first S x j)
  where
    go : (a b : Bool) → (if a then 1 else 0) + (if b then 1 else 0) ≤ 2
    go true true = omega arith
    go true false = omega arith
    go false true = omega arith
    go false false = omega arith

pub exchange_ranges : ExchangeBytes
unfolding exchange_outcomes setting grade
exchange_ranges n t T marks inputs table =
    let S = setting n t T marks table in
    outcome_ranges S _ _ _ _ 2 (λ i. y_is_bit S 1 (at inputs) i) (λ i. grade_bound n t T _) (λ i. refl) (garbled_alone_le S (at inputs))

pub outcome_ranges_of : OutcomeBytesLaw
unfolding outcomes setting phases value_of final_grade final_flag garbled_rounds y_after grade_after grade
outcome_ranges_of R =
    let S = setting_of R in
    let p = R.t + 1 in
    let x = x_after S (from_0 R.sender) R.value p in
    outcome_ranges S _ _ _ _ (rounds R.t) (λ i. y_is_bit S (first_round p) x i) (λ i. grade_bound R.n R.t R.T _) (λ i. refl) (λ i. count_le (rounds R.t) _)
