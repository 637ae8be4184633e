-- Definition 6 of one graded exchange. What all good stations enter with they leave with (validity), and a high enough grade at one good
-- station binds all (consistency detection). The argument is that of source 001, Lemmas 1 and 2. Assumes nothing.
use Prim.Native.Nat.{ℕ, ◌+◌, ◌-◌, ◌≤◌}
use mathlib.Core.Path.{◌≡◌, refl, sym, ◌∙◌}
use mathlib.Core.Logic.{◌≢◌}
use mathlib.Core.Bool.{Bool, true, false, not, ◌&&◌, true≢false}
use native.Mathlib.Omega.{arith}
use native.Mathlib.Nat.{le_of_eq}
use lib.Dec.{eqb}
use borrow.Author.Tests.{eqb-true, eq-eqb, not-true}
use Rattle.line.specs.Count.{count}
use Rattle.line.specs.Line.{Fits}
use Rattle.line.specs.Marks.{faults}
use Rattle.line.proofs.CountLaws.{if_false, count_none, count_not}
use Rattle.broadcast.specs.Exchange.{Setting, firsts, seconds, sends, first_row, z, second_row, y, grade}
use Rattle.broadcast.specs.Guarantees.{Good, GradedConsensus}
use Rattle.broadcast.proofs.TallyLaws.{firsts_low, firsts_apart, seconds_low, seconds_apart, seconds_high, z_means, z_because, z_bound, y_bit, y_majority, grade_2, grade_bound, grade_positive, grade_because}

-- f, the number of bad stations
abbrev pub faults_of : Setting → ℕ
faults_of S = faults S.n S.bad

-- every good station has v
abbrev pub All : Setting → (ℕ → ℕ) → ℕ → Type 0
All S x v = (i : ℕ) → Good S.n S.bad i → x i ≡ v

-- a good station sends what the steps make it send
pub good_sends : (S : Setting) (r i j b : ℕ) → S.bad i ≡ false → sends S r i j b ≡ b
unfolding sends
good_sends S r i j b g = if_false _ _ g

pub y_is_bit : (S : Setting) (r : ℕ) (x : ℕ → ℕ) (j : ℕ) → y S r x j ≤ 1
unfolding y
y_is_bit S r x j = y_bit S.n (second_row S r x j)

both : (a b : Bool) → not a && b ≡ true → (a ≡ false) × (b ≡ true)
both false b e = (refl, e)
both true b e = absurd (true≢false (sym e))

module _ (S : Setting) (fits : Fits S.n S.t S.T) (r : ℕ) (x : ℕ → ℕ) (bits : (i : ℕ) → Good S.n S.bad i → x i ≤ 1) where
  from_good_1 : (i j : ℕ) → S.bad i ≡ false → first_row S r x j i ≡ x i
  unfolding first_row
  from_good_1 i j g = good_sends S r i j (x i) g

  from_good_2 : (i j : ℕ) → S.bad i ≡ false → second_row S r x j i ≡ z S r x i
  unfolding second_row
  from_good_2 i j g = good_sends S (r + 1) i j (z S r x i) g

  z_small : (i : ℕ) → Good S.n S.bad i → z S r x i ≤ 2
  unfolding z
  z_small i g = z_bound S.n S.T (x i) (first_row S r x i) (bits i g)

  -- ---- validity
  module _ (v : ℕ) (bit : v ≤ 1) (few : faults_of S ≤ S.T) (all : All S x v) where
    valid_z : All S (z S r x) v
    unfolding z
    valid_z j g =
        let c : count S.n (λ k. not (S.bad k)) ≤ firsts S.n v (first_row S r x j)
        = firsts_low S.n (first_row S r x j) v bit _ (λ k l b. from_good_1 k j (not-true _ b) ∙ all k (l, not-true _ b)) in
        (z_means S.n S.T (x j) (first_row S r x j)).0 (rw (all j g) (omega (arith, count_not S.n S.bad))) ∙ all j g

    -- the good stations' ballots for v reach everybody
    valid_count : (j : ℕ) → S.n ≤ seconds S.n v (second_row S r x j) + faults_of S
    valid_count j =
        let c : count S.n (λ k. not (S.bad k)) ≤ seconds S.n v (second_row S r x j)
        = seconds_low S.n (second_row S r x j) v bit _ (λ k l b. from_good_2 k j (not-true _ b) ∙ valid_z k (l, not-true _ b)) in
        omega (arith, count_not S.n S.bad)

    valid_y : (j : ℕ) → y S r x j ≡ v
    unfolding y
    valid_y j =
        y_majority S.n (second_row S r x j) v (1 - v) (omega arith)
        (omega (arith, fits, valid_count j, seconds_apart S.n (second_row S r x j) v (1 - v) (omega arith)))

    valid_1 : (j : ℕ) → 1 ≤ grade S r x j
    unfolding grade
    valid_1 j = grade_positive S.n S.t S.T _ (rw (valid_y j) (omega (arith, valid_count j)))

    valid_2 : faults_of S ≤ S.t → (j : ℕ) → grade S r x j ≡ 2
    unfolding grade
    valid_2 f j = grade_2 S.n S.t S.T _ (rw (valid_y j) (omega (arith, valid_count j)))

  -- ---- consistency detection

  -- the good stations that send v in the second round
  senders : ℕ → ℕ
  senders v = count S.n (λ k. not (S.bad k) && eqb (z S r x k) v)

  z_why : (v : ℕ) → v ≤ 1 → (k : ℕ) → z S r x k ≡ v → (x k ≡ v) × (S.n - S.T ≤ firsts S.n v (first_row S r x k))
  unfolding z
  z_why v h k = z_because S.n S.T (x k) v (first_row S r x k) h

  -- what anybody counts for v in the second round comes from them and from bad stations
  counted : (v i : ℕ) → seconds S.n v (second_row S r x i) ≤ senders v + faults_of S
  unfolding senders
  counted v i =
      seconds_high S.n (second_row S r x i) v S.bad _
      (λ k l g. rw (from_good_2 k i g) (z_small k (l, g), λ e. rw (g, eq-eqb (z S r x k) v e)))

  -- they are counted for v by everybody, in both rounds
  heard_1 : (v : ℕ) → v ≤ 1 → (j : ℕ) → senders v ≤ firsts S.n v (first_row S r x j)
  unfolding senders
  heard_1 v h j =
      firsts_low S.n (first_row S r x j) v h _
      (λ k l e. let b = both _ _ e in from_good_1 k j b.0 ∙ (z_why v h k (eqb-true _ v b.1)).0)

  heard_2 : (v : ℕ) → v ≤ 1 → (j : ℕ) → senders v ≤ seconds S.n v (second_row S r x j)
  unfolding senders
  heard_2 v h j =
      seconds_low S.n (second_row S r x j) v h _ (λ k l e. let b = both _ _ e in from_good_2 k j b.0 ∙ eqb-true _ v b.1)

  -- with at least n - t - T of them no good station sends the other value, and everybody's y is v
  module _ (v : ℕ) (bit : v ≤ 1) (many : S.n ≤ senders v + S.t + S.T) where
    no_other : (k : ℕ) → z S r x k ≢ 1 - v
    no_other k e =
        omega
        (arith, fits, z_why (1 - v) (omega arith) k e, heard_1 v bit k, firsts_apart S.n (first_row S r x k) v (1 - v) (omega arith))

    same_y : faults_of S ≤ S.T → (j : ℕ) → y S r x j ≡ v
    unfolding y
    same_y f j =
        let c : seconds S.n (1 - v) (second_row S r x j) ≤ count S.n (λ k. false) + faults_of S
        = seconds_high S.n (second_row S r x j) (1 - v) S.bad _
        (λ k l g. rw (from_good_2 k j g) (z_small k (l, g), λ e. absurd (no_other k e))) in
        y_majority S.n (second_row S r x j) v (1 - v) (omega arith) (omega (arith, fits, count_none S.n, heard_2 v bit j))

  -- grade 2 with f at most T, or grade 1 with f at most t, binds all
  bind_2 : faults_of S ≤ S.T → (i : ℕ) → 2 ≤ grade S r x i → (j : ℕ) → y S r x j ≡ y S r x i
  unfolding grade
  bind_2 f i g =
      same_y (y S r x i) (y_is_bit S r x i)
      (omega (arith, fits, (grade_because S.n S.t S.T _ fits.order).1 g, counted (y S r x i) i))
      f

  bind_1 : faults_of S ≤ S.t → (i : ℕ) → 1 ≤ grade S r x i → (j : ℕ) → y S r x j ≡ y S r x i
  unfolding grade
  bind_1 f i g =
      same_y (y S r x i) (y_is_bit S r x i)
      (omega (arith, fits, (grade_because S.n S.t S.T _ fits.order).0 g, counted (y S r x i) i))
      (omega (arith, fits))

  -- v is 0 or 1 where a good station enters with it
  is_bit : (v : ℕ) → All S x v → (i : ℕ) → Good S.n S.bad i → v ≤ 1
  is_bit v all i g = rw (all i g) at (bits i g)

  range_of : (i : ℕ) → (y S r x i ≤ 1) × (grade S r x i ≤ 2)
  unfolding grade
  range_of i = (y_is_bit S r x i, grade_bound S.n S.t S.T _)

  pub graded_consensus : GradedConsensus S.n S.t S.T S.bad x (y S r x) (grade S r x)
  graded_consensus = record {
    range = λ i g. range_of i;
    validity = λ f v all i g. (valid_y v (is_bit v all i g) f all i, valid_1 v (is_bit v all i g) f all i);
    validity_at_t = λ f v all i g.
        let few : faults_of S ≤ S.T = omega (arith, fits) in
        (valid_y v (is_bit v all i g) few all i, valid_2 v (is_bit v all i g) few all f i);
    detection_at_t = λ f i g e j h. bind_1 f i e j;
    detection = λ f i g e j h. bind_2 f i (le_of_eq (sym e)) j;
  }
