-- Laws of the exchange had alone: of its inputs, of its two rounds and outcomes, and of its judgement. Assumes nothing.
use Rattle.std.specs.Prelude.{if◌then◌else◌}
use Prim.Native.Nat.{ℕ, zero, suc, ◌+◌, ◌-◌, ◌*◌, ◌≤◌, ◌<◌}
use mathlib.Core.Path.{◌≡◌, refl, sym, ap, ◌∙◌}
use mathlib.Core.Bool.{Bool, true, false, not, ◌&&◌, true≢false, cond}
use mathlib.Core.List.{List, [], ◌∷◌}
use Rattle.std.specs.List.{filter, enumerate_from}
use native.Mathlib.Omega.{arith}
use native.Mathlib.Nat.{zero-mul, one-mul, two-mul, add-mul, mul-le-mul}
use lib.Dec.{ltb}
use borrow.Author.Tests.{ltb-false, eq-eqb}
use lib.ListN.{length, get_or}
use Rattle.line.specs.Count.{count}
use Rattle.line.specs.Line.{exchange_length, outcomes_length, place}
use Rattle.line.specs.Marks.{marked}
use Rattle.line.specs.Writing.{over, Each}
use Rattle.line.proofs.CountLaws.{none_passes, count_zero, count_same}
use Rattle.line.proofs.LineLaws.{place_from_start, round_there}
use Rattle.refusal.specs.Cause.{written, no_cause}
use Rattle.header.specs.Header.{marks_within}
use Rattle.refusal.specs.Cause.{Verdict}
use Rattle.refusal.proofs.VerdictLaws.{judged, accepted_false, both_accepted}
use Rattle.header.proofs.HeaderLaws.{line_sound, length_exact}
use Rattle.broadcast.specs.Exchange.{Setting, sends, first_row, second_row, y_of, flag_of, z, y, grade}
use Rattle.broadcast.specs.Broadcast.{first_of, second_of, speaks}
use Rattle.broadcast.specs.Garbled.{reading, garbled_first, garbled_second, garbled_alone}
use Rattle.broadcast.specs.Station.{State, held, told, next, moved, at}
use Rattle.broadcast.specs.Bytes.{setting, exchange_outcomes}
use Rattle.broadcast.specs.Guarantees.{Good}
use Rattle.line.specs.Ballot.{is_garbled}
use Rattle.line.proofs.BallotLaws.{bit_at_first, blank_at_second}
use Rattle.broadcast.proofs.RowLaws.{seconds_same, z_same, y_same}
use Rattle.broadcast.proofs.TallyLaws.{z_bound}
use Rattle.broadcast.proofs.ExchangeLaws.{good_sends}
use Rattle.broadcast.proofs.Theorems.{definition_6_alone}
use Rattle.step.specs.declared.Part.TheVariants.{First, Second}
use Rattle.column.specs.Column.{column}
use Rattle.round.specs.declared.Stations.{Stations}
use Rattle.round.specs.Round.{said_by, Taken, playable, Plays}
use Rattle.round.proofs.RoundLaws.{played, playable_means, log_size, column_is}
use Rattle.garbled.proofs.FoundLaws.{found_row, noted_row}
use Rattle.outcome.specs.Outcome.{outcome_at, reach}
use Rattle.outcome.proofs.OutcomeLaws.{outcomes_made}
use Rattle.exchange.specs.Promise.{foreign_inputs, inputs_verdict, exchange_verdict, Exchanged}
use Rattle.exchange.specs.Rounds.{Bits, Ready, Graded}

-- ---- counting foreign inputs

-- one station more at the front
count_first : (n : ℕ) (p : ℕ → Bool) → count (suc n) p ≡ (if p 0 then 1 else 0) + count n (λ k. p (suc k))
unfolding count
count_first zero p = refl
count_first (suc n) p = omega (arith, count_first n p)

-- of a list's items, numbered from i on, as many pass as places of the list do
passing : (q : ℕ × ℕ → Bool) (i : ℕ) (l : List ℕ) → length (filter q (enumerate_from i l)) ≡ count (length l) (λ k. q (i + k, get_or l k 0))
passing q i [] = sym (count_zero _)
passing q i (b ∷ l) =
    let here : i + 0 ≡ i = omega arith in
    let rest = count_same (length l) (λ k. q (i + 1 + k, get_or l k 0)) (λ k. q (i + suc k, get_or l k 0)) (λ k _. ap (λ (m : ℕ). q (m, get_or l k 0)) (omega arith)) in
    go (q (i, b)) (passing q (i + 1) l ∙ rest) ∙ sym (rw here at (count_first (length l) (λ k. q (i + k, get_or (b ∷ l) k 0))))
  where
    go : (c : Bool) {n : ℕ} → length (filter q (enumerate_from (i + 1) l)) ≡ n
        → length (cond c ((i, b) ∷ filter q (enumerate_from (i + 1) l)) (filter q (enumerate_from (i + 1) l))) ≡ (if c then 1 else 0) + n
    go true e = omega (arith, e)
    go false e = omega (arith, e)

pub foreign_counted : (marks : ℕ) (inputs : List ℕ)
    → length (filter (λ (p : ℕ × ℕ). not (marked marks p.0) && ltb 1 p.1) (enumerate_from 0 inputs)) ≡ foreign_inputs (length inputs) marks inputs
unfolding foreign_inputs at
foreign_counted marks inputs =
    passing (λ (p : ℕ × ℕ). not (marked marks p.0) && ltb 1 p.1) 0 inputs
    ∙ count_same (length inputs) _ _ (λ k _. let e : 0 + k ≡ k = omega arith in rw e)

-- ---- the two rounds

-- one round counts at most 1
small_count : (b : Bool) (k : ℕ) → k ≡ (if b then 1 else 0) → k < 255
small_count true k e = omega arith
small_count false k e = omega arith

module _ (n t T marks : ℕ) (inputs table : List ℕ) (most : n ≤ 32) (whole : length table ≡ exchange_length n) where
  abbrev S : Setting
  S = setting n t T marks table

  abbrev x : ℕ → ℕ
  x = at inputs

  -- both can be played, with a log of 2,048 bytes
  small : n * n ≤ 1024
  small = mul-le-mul most most

  twice : exchange_length n ≡ n * n + n * n
  twice = rw two-mul (add-mul n n n)

  pub first_playable : (log_size : ℕ) → log_size ≡ 2048 → playable n 0 First 0 log_size (length table) ≡ true
  first_playable log_size e =
      played n 0 First 0 log_size (length table) refl (round_there n 0 log_size most (omega (arith, small)))
      (round_there n 0 (length table) most (omega (arith, twice)))

  pub second_playable : (log_size : ℕ) → log_size ≡ 2048 → playable n 0 Second (n * n) log_size (length table) ≡ true
  second_playable log_size e =
      played n 0 Second (n * n) log_size (length table) refl (round_there n (n * n) log_size most (omega (arith, small)))
      (round_there n (n * n) (length table) most (omega (arith, twice)))

  -- the table's byte, by the round
  from_table : (start r i j : ℕ) → start ≡ (r - 1) * n * n → get_or table (start + i * n + j) 0 ≡ S.table r i j
  unfolding setting at
  from_table start r i j e =
      let q : place n r i j ≡ start + i * n + j = place_from_start n r i j ∙ omega (arith, e) in
      rw q

  module _ (s₀ s₁ s₂ : Stations) (l₀ l₁ l₂ : List ℕ) (size : length l₀ ≡ 2048) (entered : Each n s₀.value x) (bits : Bits n marks inputs)
      (none : (j : ℕ) → j < n → get_or s₀.garbled j 0 ≡ 0)
      (P : Plays n t T 0 First s₀ marks table 0 l₀ l₁ s₁) (Q : Plays n t T 0 Second s₁ marks table (n * n) l₁ l₂ s₂) where
    first_can : playable n 0 First 0 (length l₀) (length table) ≡ true
    first_can = first_playable (length l₀) size

    second_can : playable n 0 Second (n * n) (length l₁) (length table) ≡ true
    second_can = second_playable (length l₁) (log_size n t T 0 First s₀ marks table 0 l₀ l₁ s₁ first_can P ∙ size)

    first_is : (i j : ℕ) → i < n → j < n → column l₁ 0 n j i ≡ first_row S 1 x j i
    unfolding first_row sends setting said_by told speaks held Each
    first_is i j hi hj =
        column_is n t T 0 First s₀ marks table 0 l₀ l₁ s₁ first_can P i j hi hj
        ∙ rw (from_table 0 1 i j (simp zero-mul), entered i hi)

    z_is : (j : ℕ) → j < n → get_or s₁.z j 0 ≡ z S 1 x j
    unfolding Taken moved next z setting Each
    z_is j h =
        ap (λ (st : State). st.z) (P.takes first_can 0 j h)
        ∙ rw (entered j h) (z_same n (column l₁ 0 n j) (first_row S 1 x j) (λ i l. first_is i j l h) T (x j))

    second_is : (i j : ℕ) → i < n → j < n → column l₂ (n * n) n j i ≡ second_row S 1 x j i
    unfolding second_row sends setting said_by told speaks held
    second_is i j hi hj =
        column_is n t T 0 Second s₁ marks table (n * n) l₁ l₂ s₂ second_can Q i j hi hj
        ∙ rw (from_table (n * n) 2 i j (simp one-mul), z_is i hi)

    value_is : (j : ℕ) → j < n → get_or s₂.value j 0 ≡ y S 1 x j
    unfolding Taken moved next y setting
    value_is j h =
        ap (λ (st : State). st.value) (Q.takes second_can 0 j h)
        ∙ y_same n (column l₂ (n * n) n j) (second_row S 1 x j) (λ i l. second_is i j l h)

    -- nothing that a good station sends is garbled
    first_quiet : (j k : ℕ) → k < n → marked marks k ≡ false → speaks 0 (first_of 0) k ≡ true → is_garbled (reading (first_of 0) (first_row S 1 x j k)) ≡ false
    unfolding reading first_row Bits setting
    first_quiet j k h good _ = rw (good_sends S 1 k j (x k) good) (bit_at_first (x k) (bits k (h, good)))

    second_quiet : (j k : ℕ) → k < n → marked marks k ≡ false → speaks 0 (second_of 0) k ≡ true
        → is_garbled (reading (second_of 0) (second_row S 1 x j k)) ≡ false
    unfolding reading second_row Bits z setting
    second_quiet j k h good _ = rw (good_sends S 2 k j (z S 1 x k) good) (blank_at_second (z S 1 x k) (z_bound n T (x k) _ (bits k (h, good))))

    first_counted : (j : ℕ) → j < n → get_or s₁.garbled j 0 ≡ (if garbled_first S x j then 1 else 0)
    unfolding Taken moved next setting garbled_first
    first_counted j h =
        let room = (playable_means n 0 First 0 (length l₀) (length table) first_can).1 in
        let size₁ = log_size n t T 0 First s₀ marks table 0 l₀ l₁ s₁ first_can P in
        let f = found_row n marks 0 (first_of 0) l₁ 0 j (first_row S 1 x j) (λ k l. first_is k j l h) (first_quiet j) (rw size₁ room) in
        ap (λ (st : State). st.garbled) (P.takes first_can 0 j h)
        ∙ noted_row (get_or s₀.garbled j 0) _ (garbled_first S x j) (omega (arith, none j h)) f
        ∙ omega (arith, none j h)

    second_counted : (j : ℕ) → j < n → get_or s₂.garbled j 0 ≡ garbled_alone S x j
    unfolding Taken moved next setting garbled_second garbled_alone
    second_counted j h =
        let room = (playable_means n 0 Second (n * n) (length l₁) (length table) second_can).1 in
        let size₂ = log_size n t T 0 Second s₁ marks table (n * n) l₁ l₂ s₂ second_can Q in
        let f = found_row n marks 0 (second_of 0) l₂ (n * n) j (second_row S 1 x j) (λ k l. second_is k j l h) (second_quiet j) (rw size₂ room) in
        ap (λ (st : State). st.garbled) (Q.takes second_can 0 j h)
        ∙ noted_row (get_or s₁.garbled j 0) _ (garbled_second S x j) (small_count (garbled_first S x j) _ (first_counted j h)) f
        ∙ ap (λ (k : ℕ). (if garbled_second S x j then 1 else 0) + k) (first_counted j h)

    pub graded : Graded n t T marks inputs table s₂
    unfolding Taken moved next y grade setting
    graded = record {
      y_is = value_is;
      grade_is = λ j h.
          let same = seconds_same n (column l₂ (n * n) n j) (second_row S 1 x j) (λ i l. second_is i j l h) in
          let y_is = y_same n (column l₂ (n * n) n j) (second_row S 1 x j) (λ i l. second_is i j l h) in
          ap (λ (st : State). st.grade) (Q.takes second_can 0 j h)
          ∙ rw (y_is, same (y_of n (second_row S 1 x j)));
      garbled_is = second_counted;
    }

  -- ---- outcomes

  pub outcomes_written : (s : Stations) → Graded n t T marks inputs table s → (l : List ℕ) → length l ≡ outcomes_length n
      → over l 0 (reach (length l)) (outcome_at s.value s.grade s.garbled marks) ≡ exchange_outcomes n t T marks inputs table
  unfolding exchange_outcomes setting
  outcomes_written s g l e =
      outcomes_made S marks s.value s.grade s.garbled most (λ i. refl) (y S 1 x) (grade S 1 x) (λ i. flag_of (grade S 1 x i)) (garbled_alone S x)
      (λ i h. (g.y_is i h.0, g.grade_is i h.0, refl, g.garbled_is i h.0)) l e

-- ---- the judgement

not_foreign : (bad : Bool) (b : ℕ) → not bad && ltb 1 b ≡ false → bad ≡ false → b ≤ 1
not_foreign true b e g = absurd (true≢false g)
not_foreign false b e g = ltb-false 1 b e

module _ (n t T marks : ℕ) (inputs : List ℕ) where
  inputs_bits : length inputs ≡ n → inputs_verdict n marks inputs ≡ no_cause → (i : ℕ) → Good n (marked marks) i → at inputs i ≤ 1
  unfolding inputs_verdict foreign_inputs
  inputs_bits e a i g =
      not_foreign (marked marks i) (at inputs i) (none_passes n _ none i g.0) g.1
    where
      none : count n (λ k. not (marked marks k) && ltb 1 (at inputs k)) ≡ 0
      none = omega (arith, ltb-false 0 (foreign_inputs n marks inputs) (rw (eq-eqb (length inputs) n e) at (accepted_false _ _ a)))

  -- an accepted exchange is ready
  pub ready : (table_size outcomes_size : ℕ) (answer : Verdict) → answer ≡ exchange_verdict n t T marks inputs table_size outcomes_size
      → answer ≡ no_cause → Ready n t T marks inputs table_size outcomes_size
  unfolding exchange_verdict Bits
  ready table_size outcomes_size answer v accepted =
      let (a, e₂) = both_accepted _ _ (sym v ∙ accepted) in
      let (c, e₃) = both_accepted _ _ e₂ in
      let (d, e₄) = both_accepted (marks_within n marks) _ e₃ in
      let (f, e₅) = both_accepted _ _ e₄ in
      let (g, h) = both_accepted _ _ e₅ in
      let (some, most, fits) = line_sound n t T a in
      let whole = length_exact n (length inputs) f in
      record {
        most = most;
        fits = fits;
        inputs_whole = whole;
        table_whole = length_exact (exchange_length n) table_size g;
        outcomes_whole = length_exact (outcomes_length n) outcomes_size h;
        bits = inputs_bits whole c;
      }

  -- the promise, from the judgement and the bytes
  pub exchanged : (table before after : List ℕ) (answer : Verdict) → answer ≡ exchange_verdict n t T marks inputs (length table) (length before)
      → after ≡ written answer (exchange_outcomes n t T marks inputs table) before → Exchanged n t T marks inputs table before after answer
  unfolding Bits
  exchanged table before after answer e q = record {
    judged = judged e;
    outcomes_are = q;
    graded_consensus = λ a.
        let r = ready (length table) (length before) answer e a in
        rw (q, a) (definition_6_alone n t T marks inputs table r.fits r.bits);
  }
