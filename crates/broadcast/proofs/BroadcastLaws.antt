-- Demand 3 of the broadcast, from Definition 6 of its exchanges. The argument is that of source 001, Theorem 1. Assumes nothing.
use Prim.Native.Nat.{ℕ, zero, suc, ◌+◌, ◌≤◌, ◌<◌}
use mathlib.Core.Path.{◌≡◌, refl, sym, ap, ◌∙◌}
use mathlib.Core.Logic.{◌⊎◌, inl, inr, ⊎_elim, ◌≢◌}
use mathlib.Core.Bool.{Bool, true, false, not, true≢false}
use native.Mathlib.Omega.{arith}
use native.Mathlib.Decide.{le_ind}
use native.Mathlib.Nat.{lt_of_not-le, le_of_eq, le_antisymm, eq-zero-or-pos}
use borrow.Author.Tests.{eqb-true}
use lib.Dec.{eqb}
use Rattle.line.specs.Count.{count}
use Rattle.line.specs.Line.{Fits}
use Rattle.line.specs.Marks.{faults}
use Rattle.line.specs.Ballot.{sender_value, read_king}
use Rattle.line.proofs.CountLaws.{mono, same_or_not, widen, witness}
use Rattle.line.proofs.BallotLaws.{sender_value_bit, sender_value_keeps}
use Rattle.broadcast.specs.Exchange.{Setting, sends, z, flag_of}
use Rattle.broadcast.specs.Broadcast.{obey, phases, first_round, x_after, z_after, y_after, grade_after, value_of, final_grade, final_flag}
use Rattle.broadcast.specs.Guarantees.{Good, GradedConsensus, TwoThreshold}
use Rattle.broadcast.specs.Theorems.{UnflaggedAgree, EnoughUnflagged, EnoughFlags, EnoughShow}
use Rattle.broadcast.proofs.TallyLaws.{flag_means, flag_bit, z_bound, obey_means, obey_bit, obey_king}
use Rattle.broadcast.proofs.ExchangeLaws.{faults_of, All, good_sends, y_is_bit, graded_consensus}

-- ---- x, y and z are in their ranges at every station, whatever is sent

module _ (S : Setting) (sender_from_0 value : ℕ) where
  pub y_after_bit : (p j : ℕ) → y_after S sender_from_0 value p j ≤ 1
  unfolding y_after
  y_after_bit p j = y_is_bit S (first_round p) (x_after S sender_from_0 value p) j

  pub x_after_bit : (p j : ℕ) → x_after S sender_from_0 value p j ≤ 1
  unfolding x_after y_after
  x_after_bit zero j = sender_value_bit _
  x_after_bit (suc p) j = obey_bit _ (y_after S sender_from_0 value p j) _ (y_after_bit p j)

  pub z_after_bound : (p j : ℕ) → z_after S sender_from_0 value p j ≤ 2
  unfolding z_after z
  z_after_bound p j = z_bound S.n S.T (x_after S sender_from_0 value p j) _ (x_after_bit p j)

-- ---- demand 3

module _ (S : Setting) (fits : Fits S.n S.t S.T) (sender_from_0 value : ℕ) where
  X : ℕ → ℕ → ℕ
  X = x_after S sender_from_0 value

  Y : ℕ → ℕ → ℕ
  Y = y_after S sender_from_0 value

  G : ℕ → ℕ → ℕ
  G = grade_after S sender_from_0 value

  phase_y_bit : (p j : ℕ) → Y p j ≤ 1
  unfolding Y
  phase_y_bit = y_after_bit S sender_from_0 value

  -- what a phase does
  phase : (p j : ℕ) → X (suc p) j ≡ obey (G p j) (Y p j) (read_king (sends S (first_round p + 2) p j (Y p p)))
  unfolding X Y G x_after y_after grade_after
  phase p j = refl

  phase_x_bit : (p j : ℕ) → X p j ≤ 1
  unfolding X
  phase_x_bit = x_after_bit S sender_from_0 value

  -- the exchange that p phases precede
  exchange : (p : ℕ) → GradedConsensus S.n S.t S.T S.bad (X p) (Y p) (G p)
  unfolding X Y G y_after grade_after
  exchange p = graded_consensus S fits (first_round p) (X p) (λ i g. phase_x_bit p i)

  -- ---- what all good stations have they keep through every later phase, whatever the kings send

  keep : (v : ℕ) → faults_of S ≤ S.T → (p : ℕ) → All S (X p) v → All S (X (suc p)) v
  keep v f p all j g =
      let (same, graded) = (exchange p).validity f v all j g in rw (phase p j) ((obey_means (G p j) (Y p j) _).1 graded ∙ same)

  keep_to : (v : ℕ) → faults_of S ≤ S.T → (p : ℕ) → All S (X p) v → (q : ℕ) → p ≤ q → All S (X q) v
  keep_to v f p all q l = le_ind (λ (m : ℕ). All S (X m) v) all (λ m _ ih. keep v f m ih) q l

  -- ---- a good king: with f at most t, all good stations come to have its y

  good_king : faults_of S ≤ S.t → (p : ℕ) → Good S.n S.bad p → All S (X (suc p)) (Y p p)
  good_king f p king j g =
      rw (phase p j, good_sends S (first_round p + 2) p j (Y p p) king.1) (go (eq-zero-or-pos (G p j)))
    where
      go : (G p j ≡ 0) ⊎ (0 < G p j) → obey (G p j) (Y p j) (read_king (Y p p)) ≡ Y p p
      go (inl e) = rw e (obey_king (Y p j) (Y p p) (phase_y_bit p p))
      go (inr e) = (obey_means (G p j) (Y p j) _).1 e ∙ sym ((exchange p).detection_at_t f j g e p king)

  -- one of the t + 1 kings is good, so all good stations have the same after all phases
  settled : faults_of S ≤ S.t → (v : ℕ) × All S (X (phases S.t)) v
  unfolding phases
  settled f =
      let (p, l, good) = witness (S.t + 1) S.bad (omega (arith, fits, widen (S.t + 1) S.n S.bad (omega (arith, fits)))) in
      let king : Good S.n S.bad p = (omega (arith, fits), good) in
      (Y p p, keep_to (Y p p) (omega (arith, fits)) (suc p) (good_king f p king) (phases S.t) (omega arith))

  -- ---- a good sender's value is taken in round 1 and kept

  started : value ≤ 1 → S.bad sender_from_0 ≡ false → All S (X 0) value
  unfolding X x_after
  started bit good j g = ap sender_value (good_sends S 1 sender_from_0 j value good) ∙ sender_value_keeps value bit

  -- ---- the last exchange

  decides : ℕ → ℕ
  decides = value_of S sender_from_0 value

  flags : ℕ → ℕ
  flags = final_flag S sender_from_0 value

  last : GradedConsensus S.n S.t S.T S.bad (X (phases S.t)) decides (final_grade S sender_from_0 value)
  unfolding decides value_of final_grade Y G
  last = exchange (phases S.t)

  flag_is : (j : ℕ) → flags j ≡ flag_of (final_grade S sender_from_0 value j)
  unfolding flags final_flag
  flag_is j = refl

  -- f at most t: one value, and no flag
  agreed : faults_of S ≤ S.t → (v : ℕ) × All S decides v
  agreed f = let (v, all) = settled f in (v, λ j g. (last.validity_at_t f v all j g).0)

  quiet : faults_of S ≤ S.t → (i : ℕ) → Good S.n S.bad i → flags i ≡ 0
  quiet f i g =
      let (v, all) = settled f in flag_is i ∙ (flag_means _).1 (le_of_eq (sym (last.validity_at_t f v all i g).1))

  -- f at most T: a good station without a flag has grade 2, which binds all
  bound_by : faults_of S ≤ S.T → (k : ℕ) → Good S.n S.bad k → 2 ≤ final_grade S sender_from_0 value k → All S decides (decides k)
  bound_by f k g h = last.detection f k g (le_antisymm (last.range k g).1 h)

  pub two_threshold : value ≤ 1
      → TwoThreshold 2 S.n S.t S.T S.bad sender_from_0 value (value_of S sender_from_0 value) (final_flag S sender_from_0 value)
  unfolding decides flags
  two_threshold bit = record {
    range = λ i gi. (omega (arith, (last.range i gi).0), rw (flag_is i) (flag_bit _));
    agreement = λ f i j gi gj. let (v, all) = agreed f in all i gi ∙ sym (all j gj);
    no_flag = quiet;
    extended_validity = λ f gs i gi.
        (last.validity f value (keep_to value f 0 (started bit gs.1) (phases S.t) (omega arith)) i gi).0;
    consistency_detection = λ f i j gi gj differ k gk.
        flag_is k
        ∙ (flag_means _).0 (lt_of_not-le (λ h. differ (bound_by f k gk h i gi ∙ sym (bound_by f k gk h j gj))));
    flag_soundness = λ i gi e. lt_of_not-le (λ f. omega (arith, quiet f i gi));
  }

-- two numbers that can't differ are one
same_unless : (x y : ℕ) → (x ≢ y → ⊥) → x ≡ y
same_unless x y h = ⊎_elim (λ e. e) (λ ne. absurd (h ne)) (same_or_not x y)

-- where no good station shows it, at most the bad ones do
only_bad : (n : ℕ) (shows bad : ℕ → Bool) → ((k : ℕ) → Good n bad k → shows k ≡ true → ⊥) → count n shows ≤ faults n bad
only_bad n shows bad none = mono n shows bad (λ k h. go k h (bad k) refl)
  where
    go : (k : ℕ) → k < n → (b : Bool) → bad k ≡ b → shows k ≡ true → b ≡ true
    go k h true e shown = refl
    go k h false e shown = absurd (none k (h, e) shown)

-- two good stations that decide differently would have the quiet one raise its flag
pub unflagged_agree : UnflaggedAgree
unflagged_agree values n t T bad s v D F P f k gk quiet i j gi gj =
    same_unless (D i) (D j) (λ differ. quiet (P.consistency_detection f i j gi gj differ k gk))

-- and so would every station that shows no flag be bad, which are too many
pub enough_unflagged : EnoughUnflagged
enough_unflagged values n t T bad s v D F P f enough i j gi gj =
    same_unless (D i) (D j)
    (λ differ.
    let few = only_bad n (λ k. not (eqb (F k) 1)) bad (λ k g quiet. true≢false (sym (rw (P.consistency_detection f i j gi gj differ k g) at quiet))) in
    omega (arith, f, enough, few))

-- with f at most t no good station flags, so every station that shows a flag would be bad
pub enough_flags : EnoughFlags
enough_flags values n t T bad s v D F P enough =
    lt_of_not-le
    (λ f.
    let few = only_bad n (λ k. eqb (F k) 1) bad (λ k g flagged. true≢false (sym (rw (P.no_flag f k g) at flagged))) in
    omega (arith, f, enough, few))

-- a good station that decides otherwise would make everyone bad that shows v
pub enough_show : EnoughShow
enough_show n T bad D f agree v enough i gi =
    same_unless (D i) v
    (λ differ.
    let few = only_bad n (λ k. eqb (D k) v) bad (λ k g shown. differ (agree i k gi g ∙ eqb-true (D k) v shown)) in
    omega (arith, f, enough, few))
