-- The rounds that the rehearsal plays are the run's: by demand 2, single stations on the run's rows send the run's ballots and take the run's
-- steps. Assumes nothing.
use Prim.Native.Nat.{ℕ, suc, ◌+◌, ◌-◌, ◌*◌, ◌/◌, ◌%◌, ◌≤◌, ◌<◌}
use mathlib.Core.Path.{◌≡◌, refl, sym, ap, ◌∙◌}
use mathlib.Core.Bool.{Bool, true, false}
use mathlib.Core.List.{List}
use mathlib.Core.Logic.{◌⊎◌, inl, inr}
use native.Mathlib.Omega.{arith}
use native.Mathlib.Numerals.{add-one}
use native.Mathlib.Nat.{mul_assoc, zero-mul, suc-mul, div-add-mod', div-lt_iff_lt-mul, mod-lt}
use lib.ListN.{length, get_or, replicate}
use lib.Seq.{ext_get_or}
use Rattle.std.specs.Prelude.{if◌then◌else◌}
use Rattle.line.specs.Line.{from_0, rounds, table_length, outcomes_length, place, has_round}
use Rattle.line.specs.Ballot.{is_garbled}
use Rattle.line.specs.Marks.{marked}
use Rattle.line.specs.Writing.{over}
use Rattle.line.proofs.CountLaws.{le_or_lt}
use Rattle.line.proofs.LineLaws.{rounds_bound, round_within, round_there}
use Rattle.header.specs.Header.{Sound}
use Rattle.broadcast.specs.Broadcast.{part, speaks, value_of, final_grade, final_flag}
use Rattle.broadcast.specs.Garbled.{reading, garbled_rounds}
use Rattle.broadcast.specs.Station.{State, ballot, at, after}
use Rattle.broadcast.specs.Bytes.{setting, setting_of, Run, log, outcomes, setup, column}
use Rattle.broadcast.specs.Guarantees.{Good}
use Rattle.broadcast.specs.Theorems.{value_at, grade_at, garbled_at, Follows, PutTogether}
use Rattle.broadcast.proofs.BytesLaws.{at_tabulate, at_in_round, column_at, good_value, good_grade, good_count}
use Rattle.broadcast.proofs.Theorems.{log_bytes, good_ballots_readable, done_after_rows}
use Rattle.step.specs.Part.{as_part}
use Rattle.column.specs.Column as columns
use Rattle.round.specs.declared.Stations.{Stations}
use Rattle.round.specs.Round.{state_at, all_opened, said_by, speaker_within, playable, Plays}
use Rattle.round.proofs.RoundLaws.{says_ballot, takes_row, opened_at, speaker_in, played, playable_means, log_size, log_before, column_is}
use Rattle.outcome.specs.Outcome.{outcome_at, reach}
use Rattle.outcome.proofs.OutcomeLaws as outcome
use Rattle.rehearsal.specs.Calls.{Values}
use Rattle.rehearsal.specs.Rounds.{Playable, Played}
use Rattle.rehearsal.proofs.CallLaws as calls

module _ (R : Run) (bytes₀ : List ℕ) (ready : Playable R bytes₀) where
  header : Sound R.n R.t R.T R.sender R.value R.marks
  header = ready.header

  -- every station is opened with the sender's value
  opened : Values R (λ _. R.value)
  opened = record { bit = λ i g. header.value_bit; at_sender = λ i e. refl }

  follows : (i : ℕ) → i < R.n → marked R.marks i ≡ false → Follows R i R.value
  follows i h g = calls.follows R header (λ _. R.value) opened i (h, g)

  together : PutTogether R (λ _. R.value) (log R)
  together = (calls.make_run R header (λ _. R.value) opened).log_is_such

  -- ---- every round can be played

  room : (m : ℕ) → m < rounds R.t → m * (R.n * R.n) + R.n * R.n ≤ table_length R.n R.t
  room m h = round_within R.n R.t m h

  few_rounds : rounds R.t ≤ 36
  few_rounds = rounds_bound R.n R.t R.T header.most header.fits

  speaker : (r : ℕ) → 1 ≤ r → r ≤ rounds R.t → speaker_within R.n (from_0 R.sender) (as_part (part r)) ≡ true
  speaker = speaker_in R.n R.t R.T (from_0 R.sender) header.fits (omega (arith, header.sender_low, header.sender_high))

  can_play : (m : ℕ) → m < rounds R.t → (bytes : List ℕ) → length bytes ≡ table_length R.n R.t
      → playable R.n (from_0 R.sender) (as_part (part (suc m))) (m * (R.n * R.n)) (length bytes) (length R.table) ≡ true
  can_play m h bytes e =
      played R.n (from_0 R.sender) (as_part (part (suc m))) (m * (R.n * R.n)) (length bytes) (length R.table)
      (speaker (suc m) (omega arith) (omega arith))
      (round_there R.n (m * (R.n * R.n)) (length bytes) header.most (omega (arith, room m h)))
      (round_there R.n (m * (R.n * R.n)) (length R.table) header.most (omega (arith, room m h, ready.table_whole)))

  -- ---- one round more

  module _ (m : ℕ) (left : m < rounds R.t) (s : Stations) (bytes : List ℕ) (P : Played R m s bytes) (bytes' : List ℕ) (s' : Stations)
      (Q : Plays R.n R.t R.T (from_0 R.sender) (as_part (part (suc m))) s R.marks R.table (m * (R.n * R.n)) bytes bytes' s') where
    start : ℕ
    start = m * (R.n * R.n)

    can : playable R.n (from_0 R.sender) (as_part (part (suc m))) (m * (R.n * R.n)) (length bytes) (length R.table) ≡ true
    can = can_play m left bytes P.log_whole

    -- a good station is as its automaton is
    here : (i : ℕ) → i < R.n → marked R.marks i ≡ false
        → state_at s (suc m) i ≡ after (setup R i) R.value (column R.n (log R) i) m
    here i h g = rw (add-one m) at (P.stations_are i h g)

    -- and says what the run has from it
    said_is : (i : ℕ) → i < R.n → marked R.marks i ≡ false
        → said_by (from_0 R.sender) (as_part (part (suc m))) s i
        ≡ ballot (setup R i) (after (setup R i) R.value (column R.n (log R) i) m)
    unfolding setup
    said_is i h g = says_ballot R.n R.t R.T (from_0 R.sender) s R.value m i (column R.n (log R) i) (here i h g)

    -- what is in station j's column is what the run has in it
    column_sent : (i j : ℕ) → i < R.n → j < R.n
        → columns.column bytes' (m * (R.n * R.n)) R.n j i ≡ at (log R) (place R.n (suc m) i j)
    column_sent i j hi hj =
        column_is R.n R.t R.T (from_0 R.sender) (as_part (part (suc m))) s R.marks R.table (m * (R.n * R.n)) bytes bytes' s' can Q i j hi hj
        ∙ go (marked R.marks i) refl
      where
        go : (b : Bool) → marked R.marks i ≡ b
            → (if b then get_or R.table (m * (R.n * R.n) + i * R.n + j) 0 else said_by (from_0 R.sender) (as_part (part (suc m))) s i)
            ≡ at (log R) (place R.n (suc m) i j)
        go true e = sym (together.from_marked (suc m) i j (omega arith) left hi hj e ∙ at_in_round R.table R.n m i j)
        go false e =
            said_is i hi e
            ∙ (follows i hi e).ballots m j left hj
            ∙ ap (λ (r : ℕ). at (log R) (place R.n r i j)) (add-one m)

    -- a station's column is its row of the run
    row_is : (j : ℕ) → j < R.n → (i : ℕ) → i < R.n
        → columns.column bytes' (m * (R.n * R.n)) R.n j i ≡ at (column R.n (log R) j (suc m)) i
    unfolding column
    row_is j h i l = column_sent i j l h ∙ sym (at_tabulate R.n _ i l)

    -- in which nothing of a good station is garbled where it should speak
    quiet : (j : ℕ) → j < R.n → (k : ℕ) → k < R.n → marked R.marks k ≡ false → speaks (from_0 R.sender) (part (suc m)) k ≡ true
        → is_garbled (reading (part (suc m)) (at (column R.n (log R) j (suc m)) k)) ≡ false
    quiet j h k l good speaks_k =
        rw (column_at R.n (log R) j (suc m) k l)
        (good_ballots_readable R header.value_bit (suc m) k j (omega arith) left (l, good) h speaks_k)

    there : has_round R.n (m * (R.n * R.n)) (length bytes') ≡ true
    there =
        rw (log_size R.n R.t R.T (from_0 R.sender) (as_part (part (suc m))) s R.marks R.table (m * (R.n * R.n)) bytes bytes' s' can Q)
        (playable_means R.n (from_0 R.sender) (as_part (part (suc m))) (m * (R.n * R.n)) (length bytes) (length R.table) can).1

    stepped : (j : ℕ) → j < R.n → marked R.marks j ≡ false
        → state_at s' (suc m + 1) j ≡ after (setup R j) R.value (column R.n (log R) j) (suc m)
    unfolding setup
    stepped j h g =
        takes_row R.n R.t R.T (from_0 R.sender) s R.value m j (column R.n (log R) j) (here j h g)
        R.marks bytes' (m * (R.n * R.n)) s' (Q.takes can) h (speaker (suc m) (omega arith) (omega arith)) there (omega (arith, few_rounds)) (row_is j h) (quiet j h)

    -- a byte of the round just played
    written : (k : ℕ) → k < R.n * R.n → get_or bytes' (m * (R.n * R.n) + k) 0 ≡ get_or (log R) (m * (R.n * R.n) + k) 0
    unfolding columns.column
    written k h =
        let pos : 0 < R.n = omega (arith, header.some) in
        let i : k / R.n < R.n = (div-lt_iff_lt-mul pos).1 h in
        let j : k % R.n < R.n = mod-lt k pos in
        let e : m * (R.n * R.n) + k / R.n * R.n + k % R.n ≡ m * (R.n * R.n) + k = omega (arith, div-add-mod' k R.n) in
        rw e at (column_sent (k / R.n) (k % R.n) i j ∙ at_in_round (log R) R.n m (k / R.n) (k % R.n))

    pub round_played : Played R (suc m) s' bytes'
    round_played = record {
      stations_are = stepped;
      log_has = λ k h. has k h (le_or_lt (m * (R.n * R.n)) k);
      log_whole = log_size R.n R.t R.T (from_0 R.sender) (as_part (part (suc m))) s R.marks R.table (m * (R.n * R.n)) bytes bytes' s' can Q ∙ P.log_whole;
    }
      where
        has : (k : ℕ) → k < suc m * (R.n * R.n) → (m * (R.n * R.n) ≤ k) ⊎ (k < m * (R.n * R.n)) → get_or bytes' k 0 ≡ get_or (log R) k 0
        has k h (inr l) =
            log_before R.n R.t R.T (from_0 R.sender) (as_part (part (suc m))) s R.marks R.table (m * (R.n * R.n)) bytes bytes' s' can Q k l
            ∙ P.log_has k l
        has k h (inl l) =
            let d : m * (R.n * R.n) + (k - m * (R.n * R.n)) ≡ k = omega arith in
            let b : k - m * (R.n * R.n) < R.n * R.n = omega (arith, suc-mul m (R.n * R.n)) in
            rw d at (written (k - m * (R.n * R.n)) b)

  -- ---- before the first round

  pub opened_played : Played R 0 (all_opened (replicate 32 R.value)) bytes₀
  unfolding setup
  opened_played = record {
    stations_are = λ i h g.
        opened_at R.n R.t R.T (from_0 R.sender) R.value i (column R.n (log R) i) (omega (arith, header.most));
    log_has = λ k l. absurd (omega (arith, zero-mul (R.n * R.n)));
    log_whole = ready.log_whole;
  }

  -- ---- after the last round

  module _ (s : Stations) (bytes : List ℕ) (P : Played R (rounds R.t) s bytes) where
    pub log_made : bytes ≡ log R
    log_made =
        ext_get_or 0 bytes (log R) (P.log_whole ∙ sym (log_bytes R).size)
        (λ k h. P.log_has k (rw (P.log_whole, mul_assoc (rounds R.t) R.n R.n) at h))

    -- a good station is done with its bytes of the outcomes
    its_done : (i : ℕ) → Good R.n (marked R.marks) i
        → (get_or s.value i 0 ≡ value_at (outcomes R) i) × (get_or s.grade i 0 ≡ grade_at (outcomes R) i)
        × (get_or s.garbled i 0 ≡ garbled_at (outcomes R) i)
    unfolding setup
    its_done i h =
        let e = P.stations_are i h.0 h.1 in
        let d = (done_after_rows (setup R i) R.value (column R.n (log R) i)).done_after in
        let q = calls.same_done d (follows i h.0 h.1).done_after in
        (ap (λ (st : State). st.value) e ∙ q.0, ap (λ (st : State). st.grade) e ∙ q.1, ap (λ (st : State). st.garbled) e ∙ q.3)

    value_is : (i : ℕ) → Good R.n (marked R.marks) i → get_or s.value i 0 ≡ value_of (setting_of R) (from_0 R.sender) R.value i
    unfolding outcomes setting
    value_is i h = (its_done i h).0 ∙ good_value (setting_of R) _ _ _ _ i h

    grade_is : (i : ℕ) → Good R.n (marked R.marks) i → get_or s.grade i 0 ≡ final_grade (setting_of R) (from_0 R.sender) R.value i
    unfolding outcomes setting
    grade_is i h = (its_done i h).1 ∙ good_grade (setting_of R) _ _ _ _ i h

    garbled_is : (i : ℕ) → Good R.n (marked R.marks) i → get_or s.garbled i 0 ≡ garbled_rounds (setting_of R) (from_0 R.sender) R.value i
    unfolding outcomes setting
    garbled_is i h = (its_done i h).2 ∙ good_count (setting_of R) _ _ _ _ i h

    pub outcomes_made : (l : List ℕ) → length l ≡ outcomes_length R.n
        → over l 0 (reach (length l)) (outcome_at s.value s.grade s.garbled R.marks) ≡ outcomes R
    unfolding outcomes setting final_flag
    outcomes_made l size =
        outcome.outcomes_made (setting_of R) R.marks s.value s.grade s.garbled header.most (λ i. refl) _ _ _ _
        (λ i h. (value_is i h, grade_is i h, refl, garbled_is i h)) l size
