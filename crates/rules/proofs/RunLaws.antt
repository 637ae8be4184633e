-- The set, and the log as a run. Assumes nothing.
use Prim.Native.Nat.{ℕ, ◌+◌, ◌-◌, ◌^◌, ◌≤◌, ◌<◌}
use mathlib.Core.Path.{◌≡◌, refl, sym, ap, subst, ◌∙◌}
use mathlib.Core.Bool.{Bool, true, false, not, true≢false}
use mathlib.Core.List.{List}
use mathlib.Core.Logic.{◌⊎◌, inl, inr}
use native.Mathlib.Omega.{arith}
use borrow.Author.Tests.{not-false}
use Rattle.line.specs.Line.{Fits, from_0, rounds}
use Rattle.line.specs.Marks.{marked, mark_beyond}
use Rattle.line.proofs.CountLaws.{le_or_lt}
use Rattle.line.proofs.MarksLaws.{marked_above_width, beyond_some, marks_same, marks_below, marks_back, marks_are}
use Rattle.broadcast.specs.Bytes.{Run, outcomes, setup}
use Rattle.broadcast.specs.Guarantees.{Good}
use Rattle.broadcast.specs.Theorems.{grade_at, PutTogether, MakeRun}
use Rattle.broadcast.proofs.Theorems.{outcome_bytes, station_follows_run, stations_make_run}
use Rattle.rules.specs.Rules.{Logged, outcome_at, station, state, KeepsWith, Keeps, Exactly, keeps, breaks, broke}
use Rattle.rules.specs.Theorems.{run_on, RunUnder, Fitting, Least, logged_of}
use Rattle.rules.proofs.OutcomeLaws.{outcome_bytes_same, outcome_from_bytes}
use Rattle.rules.proofs.KeepsLaws.{kept_grade, own_value, own_bit, keeps_true, keeps_hold, decided}

-- ---- who is in the set

module _ (L : Logged) where
  broke_is : (i : ℕ) → i < L.n → marked (broke L) i ≡ not (keeps L i)
  unfolding broke breaks
  broke_is i h = marks_are L.n (breaks L) i h

  broke_below : broke L < 2 ^ L.n
  unfolding broke
  broke_below = marks_below L.n (breaks L)

  unmarked_keeps : (i : ℕ) → i < L.n → marked (broke L) i ≡ false → KeepsWith L i (own_value L i)
  unmarked_keeps i h e = keeps_true L i (not-false (keeps L i) (sym (broke_is i h) ∙ e))

  -- who is marked does not keep the rules
  marked_breaks : (i : ℕ) → i < L.n → marked (broke L) i ≡ true → Keeps L i → ⊥
  marked_breaks i h e K = true≢false (sym e ∙ broke_is i h ∙ ap not (keeps_hold L i K))

  breaks_marked : (i : ℕ) → i < L.n → (Keeps L i → ⊥) → marked (broke L) i ≡ true
  breaks_marked i h none = go (keeps L i) refl
    where
      go : (b : Bool) → keeps L i ≡ b → marked (broke L) i ≡ true
      go true e = absurd (none ((decided L i).0 e))
      go false e = broke_is i h ∙ ap not e

  none_beyond : (i : ℕ) → L.n ≤ i → marked (broke L) i ≡ false
  none_beyond i h = marked_above_width (broke L) i L.n h broke_below

  pub exactly : Exactly L (broke L)
  exactly = record { stations = λ i h. (marked_breaks i h, breaks_marked i h); none_beyond = none_beyond }

  -- other marks that are the set mark the same stations, and none beyond
  pub one_set : (marks : ℕ) → Exactly L marks → marks ≡ broke L
  unfolding broke breaks
  one_set marks E =
      sym (marks_back L.n marks (none (mark_beyond L.n marks) refl))
      ∙ marks_same L.n (marked marks) (breaks L) (λ i h. same i h (keeps L i) refl (marked marks i) refl)
    where
      none : (b : Bool) → mark_beyond L.n marks ≡ b → b ≡ false
      none false e = refl
      none true e = let (i, h, q) = beyond_some L.n marks e in absurd (true≢false (sym q ∙ E.none_beyond i h))

      same : (i : ℕ) → i < L.n → (k : Bool) → keeps L i ≡ k → (m : Bool) → marked marks i ≡ m → m ≡ not k
      same i h true e true q = absurd ((E.stations i h).0 q ((decided L i).0 e))
      same i h true e false q = refl
      same i h false e true q = refl
      same i h false e false q =
          absurd (true≢false (sym ((E.stations i h).1 (λ K. true≢false (sym (keeps_hold L i K) ∙ e))) ∙ q))

-- ---- the unmarked stations of a run keep the rules

module _ (R : Run) (fits : Fits R.n R.t R.T) (low : 1 ≤ R.sender) (high : R.sender ≤ R.n) (bit : R.value ≤ 1) where
  pub good_keeps : (i : ℕ) → Good R.n (marked R.marks) i → KeepsWith (logged_of R) i R.value
  unfolding setup station state outcome_at
  good_keeps i g =
      let F = station_follows_run R fits low high i R.value g (λ _. refl) in
      record {
        bytes = λ r j a b h.
            let back : r - 1 + 1 ≡ r = omega arith in
            let below : r - 1 < rounds R.t = omega arith in
            sym (rw back at (F.ballots (r - 1) j below h));
        outcome = F.done_after;
      }

  -- and the marked ones, whose outcome bytes are 255, do not
  bad_breaks : (i : ℕ) → i < R.n → marked R.marks i ≡ true → keeps (logged_of R) i ≡ false
  bad_breaks i h e = go (keeps (logged_of R) i) refl
    where
      go : (b : Bool) → keeps (logged_of R) i ≡ b → b ≡ false
      go false q = refl
      go true q =
          let low : grade_at (outcomes R) i ≤ 2 = kept_grade (logged_of R) i _ (own_bit (logged_of R) i) (keeps_true (logged_of R) i q) in
          let bad : grade_at (outcomes R) i ≡ 255 = (outcome_bytes R).marked_grade i h e in
          absurd (omega arith)

  pub own_marks : mark_beyond R.n R.marks ≡ false → broke (logged_of R) ≡ R.marks
  unfolding broke breaks
  own_marks within =
      marks_same R.n (breaks (logged_of R)) (marked R.marks) (λ i h. each i h (marked R.marks i) refl)
      ∙ marks_back R.n R.marks within
    where
      each : (i : ℕ) → i < R.n → (b : Bool) → marked R.marks i ≡ b → not (keeps (logged_of R) i) ≡ marked R.marks i
      each i h true e = ap not (bad_breaks i h e) ∙ sym e
      each i h false e = ap not (keeps_hold (logged_of R) i (R.value, bit, good_keeps i (h, e))) ∙ sym e

-- ---- the log is a run under the set

module _ (L : Logged) (F : Fitting L) where
  abbrev its_run : Run
  its_run = run_on L (own_value L (from_0 L.sender)) (broke L) L.log

  put_together : PutTogether its_run (own_value L) L.log
  unfolding setup station state
  put_together = record {
    size = F.log_length;
    from_marked = λ r i j a b hi hj e. refl;
    from_good = λ r i j a b hi hj e. (unmarked_keeps L i hi e).bytes r j a b hj;
  }

  made : MakeRun its_run (own_value L)
  made = stations_make_run its_run F.fits F.sender_low F.sender_high (own_value L) refl

  ended : (i : ℕ) → Good L.n (marked (broke L)) i → outcome_at (outcomes its_run) i ≡ outcome_at L.outcomes i
  unfolding setup station state outcome_at
  ended i g = sym (made.the_outcomes L.log put_together i g) ∙ (unmarked_keeps L i g.0 g.1).outcome

  under_broke : RunUnder L (broke L)
  unfolding outcome_at
  under_broke = record {
    value = own_value L (from_0 L.sender);
    value_bit = own_bit L (from_0 L.sender);
    table = L.log;
    the_log = sym (made.the_log L.log put_together);
    the_outcomes = λ i g. outcome_bytes_same (outcomes its_run) L.outcomes i (ended i g);
  }

  -- ---- and under no marks that miss one of it

  abbrev with_log : List ℕ → List ℕ → Logged
  with_log bytes ends = record { n = L.n; t = L.t; T = L.T; sender = L.sender; log = bytes; outcomes = ends }

  unmarked_keeps_in : (marks : ℕ) (U : RunUnder L marks) (i : ℕ) → Good L.n (marked marks) i → KeepsWith L i U.value
  unfolding station state
  unmarked_keeps_in marks U i g =
      let R = run_on L U.value marks U.table in
      let K = subst (λ (bytes : List ℕ). KeepsWith (with_log bytes (outcomes R)) i U.value) U.the_log
      (good_keeps R F.fits F.sender_low F.sender_high U.value_bit i g) in
      record {
        bytes = K.bytes;
        outcome = K.outcome ∙ outcome_from_bytes (outcomes R) L.outcomes i (U.the_outcomes i g);
      }

  contained : (marks : ℕ) → RunUnder L marks → (i : ℕ) → marked (broke L) i ≡ true → marked marks i ≡ true
  contained marks U i e = go (le_or_lt L.n i) (marked marks i) refl
    where
      go : (L.n ≤ i) ⊎ (i < L.n) → (b : Bool) → marked marks i ≡ b → b ≡ true
      go (inl h) b q = absurd (true≢false (sym e ∙ none_beyond L i h))
      go (inr h) true q = refl
      go (inr h) false q = absurd (marked_breaks L i h e (U.value, U.value_bit, unmarked_keeps_in marks U i (h, q)))

  pub least : Least L (broke L)
  unfolding under_broke
  least = record { is_run = under_broke; its_table = refl; contained = contained }
