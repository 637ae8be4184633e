-- Demand 2 of the calls: a station's calls on its rows of the run's log, and what is made of such calls is the run. Assumes nothing.
use Prim.Native.Nat.{ℕ, zero, suc, ◌+◌, ◌-◌, ◌*◌, ◌/◌, ◌%◌, ◌≤◌, ◌<◌}
use Rattle.refusal.specs.Cause.{no_cause}
use mathlib.Core.Path.{◌≡◌, refl, sym, ◌∙◌}
use mathlib.Core.Bool.{Bool, true, false}
use mathlib.Core.Logic.{◌↔◌}
use mathlib.Core.List.{List}
use native.Mathlib.Omega.{arith}
use lib.ListN.{length, get_or}
use lib.Seq.{ext_get_or}
use Rattle.line.specs.Line.{from_0, rounds, table_length, outcome_size, outcomes_length, place}
use Rattle.line.specs.Marks.{marked}
use Rattle.header.specs.Header.{Sound}
use Rattle.broadcast.specs.Station.{Result, done, at}
use Rattle.broadcast.specs.Bytes.{Run, log, outcomes, setup}
use Rattle.broadcast.specs.Guarantees.{Good}
use Rattle.broadcast.specs.Theorems.{value_at, grade_at, flag_at, garbled_at, Follows, PutTogether, MakeRun}
use Rattle.broadcast.proofs.Theorems.{log_bytes, outcome_bytes, station_follows_run, stations_make_run}
use Rattle.state.specs.Judgement.{opening_verdict}
use Rattle.state.proofs.SoundLaws.{opening_accepts}
use Rattle.station.specs.Singly.{Singly, Automatic}
use Rattle.station.proofs.Theorems.{singly_by_automaton}
use Rattle.rehearsal.specs.Calls.{MadeOfCalls, Values, SingleStations}

-- two answers that are done have the same values
pub same_done : {r : Result} {a b c d a' b' c' d' : ℕ} → r ≡ done a b c d → r ≡ done a' b' c' d'
    → (a ≡ a') × (b ≡ b') × (c ≡ c') × (d ≡ d')
same_done p q = (cc, cc, cc, cc)

-- ---- of a run

-- station i's bytes of these results are the run's
abbrev SameOutcome : Run → List ℕ → ℕ → Type 0
SameOutcome R results i =
    (value_at results i ≡ value_at (outcomes R) i) × (grade_at results i ≡ grade_at (outcomes R) i) × (flag_at results i ≡ flag_at (outcomes R) i)
    × (garbled_at results i ≡ garbled_at (outcomes R) i)

module _ (R : Run) (header : Sound R.n R.t R.T R.sender R.value R.marks) (v : ℕ → ℕ) (values : Values R v) where
  accepted : (i : ℕ) → Good R.n (marked R.marks) i → opening_verdict R.n R.t R.T R.sender (i + 1) (v i) ≡ no_cause
  accepted i g =
      opening_accepts R.n R.t R.T R.sender (i + 1) (v i) R.marks
      (record {
        some = header.some;
        most = header.most;
        fits = header.fits;
        sender_low = header.sender_low;
        sender_high = header.sender_high;
        value_bit = values.bit i g;
        within = header.within;
      })
      (omega arith) (omega arith)

  -- ---- the run's log and outcomes are made of calls

  pub follows : (i : ℕ) → Good R.n (marked R.marks) i → Follows R i (v i)
  follows i g =
      station_follows_run R header.fits header.sender_low header.sender_high i (v i) g
      (λ e. values.at_sender i (omega (arith, header.sender_low)))

  -- what its calls answer on its rows of these bytes
  by_automaton : (bytes results : List ℕ) (i : ℕ) → Good R.n (marked R.marks) i
      → Singly R.n R.t R.T R.sender bytes results i (v i) ↔ Automatic R.n R.t R.T R.sender bytes results i (v i)
  by_automaton bytes results i g = singly_by_automaton R.n R.t R.T R.sender bytes results i (v i) (accepted i g)

  run_singly : (i : ℕ) → Good R.n (marked R.marks) i → Singly R.n R.t R.T R.sender (log R) (outcomes R) i (v i)
  unfolding setup
  run_singly i g =
      (by_automaton (log R) (outcomes R) i g).1 (record { ballots = (follows i g).ballots; done_after = (follows i g).done_after })

  bad_outcome : (i d : ℕ) → i < R.n → d < outcome_size → marked R.marks i ≡ true → at (outcomes R) (outcome_size * i + d) ≡ 255
  bad_outcome i zero h l e = let z : outcome_size * i + 0 ≡ outcome_size * i = omega arith in rw z ((outcome_bytes R).marked_value i h e)
  bad_outcome i (suc zero) h l e = (outcome_bytes R).marked_grade i h e
  bad_outcome i (suc (suc zero)) h l e = (outcome_bytes R).marked_flag i h e
  bad_outcome i (suc (suc (suc zero))) h l e = (outcome_bytes R).marked_count i h e
  bad_outcome i (suc (suc (suc (suc d)))) h l e = absurd (omega arith)

  pub make_run : MakeRun R v
  make_run =
      stations_make_run R header.fits header.sender_low header.sender_high v
      (values.at_sender (from_0 R.sender) (omega (arith, header.sender_low)))

  made : MadeOfCalls R v (log R) (outcomes R)
  made = record {
    log_size = (log_bytes R).size;
    outcomes_size = (outcome_bytes R).size;
    good = run_singly;
    bad_ballots = make_run.log_is_such.from_marked;
    bad_outcomes = bad_outcome;
  }

  -- ---- good stations that run singly on these bytes

  module _ (bytes results : List ℕ) (single : (i : ℕ) → Good R.n (marked R.marks) i → Singly R.n R.t R.T R.sender bytes results i (v i)) where
    its_automaton : (i : ℕ) → Good R.n (marked R.marks) i → Automatic R.n R.t R.T R.sender bytes results i (v i)
    its_automaton i g = (by_automaton bytes results i g).0 (single i g)

    -- with the table's bytes from the bad ones, what they sent and received is the run's log, and their results are the run's
    module _ (size : length bytes ≡ table_length R.n R.t)
        (bad_ballots : (r i j : ℕ) → 1 ≤ r → r ≤ rounds R.t → i < R.n → j < R.n → marked R.marks i ≡ true
        → at bytes (place R.n r i j) ≡ at R.table (place R.n r i j))
      where
        put_together : PutTogether R v bytes
        unfolding setup
        put_together = record {
          size = size;
          from_marked = bad_ballots;
          from_good = λ r i j a b hi hj e.
              let back : r - 1 + 1 ≡ r = omega arith in
              rw back at (sym ((its_automaton i (hi, e)).ballots (r - 1) j (omega arith) hj));
        }

        the_log : bytes ≡ log R
        the_log = make_run.the_log bytes put_together

        pub good_outcome : (i : ℕ) → Good R.n (marked R.marks) i → SameOutcome R results i
        unfolding setup
        good_outcome i g = same_done (rw the_log at (its_automaton i g).done_after) (follows i g).done_after

  -- ---- what is made of calls is the run

  module _ (bytes results : List ℕ) (P : MadeOfCalls R v bytes results) where
    its_log : bytes ≡ log R
    its_log = the_log bytes results P.good P.log_size P.bad_ballots

    its_good : (i : ℕ) → Good R.n (marked R.marks) i → SameOutcome R results i
    its_good = good_outcome bytes results P.good P.log_size P.bad_ballots

    outcome_same : (i d : ℕ) → i < R.n → d < outcome_size → at results (outcome_size * i + d) ≡ at (outcomes R) (outcome_size * i + d)
    outcome_same i d h l = go (marked R.marks i) refl d l
      where
        go : (b : Bool) → marked R.marks i ≡ b → (d : ℕ) → d < outcome_size → at results (outcome_size * i + d) ≡ at (outcomes R) (outcome_size * i + d)
        go true e d l = P.bad_outcomes i d h l e ∙ sym (bad_outcome i d h l e)
        go false e zero l = let z : outcome_size * i + 0 ≡ outcome_size * i = omega arith in rw z (its_good i (h, e)).0
        go false e (suc zero) l = (its_good i (h, e)).1
        go false e (suc (suc zero)) l = (its_good i (h, e)).2
        go false e (suc (suc (suc zero))) l = (its_good i (h, e)).3
        go false e (suc (suc (suc (suc d)))) l = absurd (omega arith)

    its_outcomes : results ≡ outcomes R
    unfolding at
    its_outcomes = ext_get_or 0 results (outcomes R) (P.outcomes_size ∙ sym (outcome_bytes R).size) each
      where
        each : (k : ℕ) → k < length results → get_or results k 0 ≡ get_or (outcomes R) k 0
        each k h =
            let b : k < outcomes_length R.n = rw P.outcomes_size at h in
            let d : outcome_size * (k / outcome_size) + k % outcome_size ≡ k = omega arith in
            rw d at (outcome_same (k / outcome_size) (k % outcome_size) (omega arith) (omega arith))

  pub single_stations : SingleStations R v (log R) (outcomes R)
  single_stations = record { singly = made; together = λ l o P. (its_log l o P, its_outcomes l o P) }
