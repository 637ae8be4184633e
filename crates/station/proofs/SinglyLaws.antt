-- A station's calls on the rows of a log are the automaton's: whatever stations the caller has, they are the automaton's states. Assumes nothing.
use Prim.Native.Nat.{ℕ, zero, suc, ◌+◌, ◌-◌, ◌≤◌}
use Rattle.refusal.specs.declared.cause.Cause.{Cause}
use Rattle.std.specs.declared.result.Result.{Result}
use Rattle.refusal.specs.Cause.{no_cause}
use Rattle.std.specs.declared.result.Result.TheVariants.{Ok}
use mathlib.Core.Path.{◌≡◌, sym, ap, ◌∙◌}
use mathlib.Core.List.{List}
use native.Mathlib.Omega.{arith}
use native.Mathlib.Numerals.{add-one}
use lib.ListN.{length}
use Rattle.line.specs.Line.{rounds}
use Rattle.broadcast.specs.Station.{Setup, Result as AutomatonResult, done, ballot, result, after}
use Rattle.broadcast.specs.Bytes.{column}
use Rattle.broadcast.proofs.BytesLaws.{length_tabulate}
use Rattle.broadcast.proofs.Theorems.{done_after_rows}
use Rattle.state.specs.declared.Station.{Station}
use Rattle.state.specs.Judgement.{opening_verdict}
use Rattle.station.specs.declared.StationResult.{StationResult}
use Rattle.station.specs.declared.StationResult.TheVariants.{Done}
use Rattle.station.specs.Answers.{ballot_answer, advance_answer, result_answer}
use Rattle.station.specs.Singly.{Singly, Automatic, setup_at}
use Rattle.station.specs.Theorems.{Opening, setup, station_after, InARow}
use Rattle.station.proofs.CallLaws as calls

-- ---- a call's answer, the same for the same station, has one value

same_ready : {o : Result Station Cause} {a b : Station} → o ≡ Ok a → o ≡ Ok b → a ≡ b
same_ready p q = cc

same_next : (f : Station → Result Station Cause) {s s' a b : Station} → s ≡ s' → f s ≡ Ok a → f s' ≡ Ok b → a ≡ b
same_next f e p q = cc

same_ballot : (f : Station → Result ℕ Cause) {s s' : Station} {a b : ℕ} → s ≡ s' → f s ≡ Ok a → f s' ≡ Ok b → a ≡ b
same_ballot f e p q = cc

same_answer : (f : Station → Result StationResult Cause) {s s' : Station} {a b c d a' b' c' d' : ℕ} → s ≡ s' → f s ≡ Ok (Done a b c d) → f s' ≡ Ok (Done a' b' c' d')
    → done a' b' c' d' ≡ done a b c d
same_answer f e p q = cc

answer_same : {r : AutomatonResult} {a b c d a' b' c' d' : ℕ} → r ≡ done a b c d → r ≡ done a' b' c' d' → ◌≡◌ {A = Result StationResult Cause} (Ok (Done a b c d)) (Ok (Done a' b' c' d'))
answer_same p q = cc

row_whole : (n : ℕ) (bytes : List ℕ) (i r : ℕ) → length (column n bytes i r) ≡ n
unfolding column
row_whole n bytes i r = length_tabulate n _

-- ---- of a station that is opened

module _ (n t T sender : ℕ) (log outcomes : List ℕ) (i v : ℕ) (accepted : opening_verdict n t T sender (i + 1) v ≡ no_cause) where
  abbrev opening : Opening
  opening = record { n = n; t = t; T = T; sender = sender; own = i + 1; value = v }

  abbrev rows : ℕ → List ℕ
  rows = column n log i

  in_a_row : InARow opening rows
  in_a_row = calls.in_a_row opening accepted rows

  its_setup : setup opening ≡ setup_at n t T sender i
  its_setup = let e : i + 1 - 1 ≡ i = omega arith in rw e

  its_ballot : (m : ℕ) → ballot (setup opening) (after (setup opening) v rows m) ≡ ballot (setup_at n t T sender i) (after (setup_at n t T sender i) v rows m)
  its_ballot m = ap (λ (c : Setup). ballot c (after c v rows m)) its_setup

  its_end : result (setup opening) (after (setup opening) v rows (rounds t)) ≡ result (setup_at n t T sender i) (after (setup_at n t T sender i) v rows (rounds t))
  its_end = ap (λ (c : Setup). result c (after c v rows (rounds t))) its_setup

  pub singly : Automatic n t T sender log outcomes i v → Singly n t T sender log outcomes i v
  singly A = record {
    station = station_after opening rows;
    opens = in_a_row.opens;
    tells = λ m j h l. in_a_row.tells m h ∙ ap Ok (its_ballot m ∙ A.ballots m j h l);
    running = in_a_row.running;
    advances = λ m h. rw (add-one m) (in_a_row.advances m h (row_whole n log i (suc m)));
    done = in_a_row.done ∙ answer_same (done_after_rows (setup opening) v rows).done_after (its_end ∙ A.done_after);
  }

  module _ (S : Singly n t T sender log outcomes i v) where
    same_station : (m : ℕ) → m ≤ rounds t → S.station m ≡ station_after opening rows m
    same_station zero h = same_ready S.opens in_a_row.opens
    same_station (suc m) h =
        same_next (λ s. advance_answer s (column n log i (suc m))) (same_station m (omega arith))
        (rw (add-one m) at (S.advances m h))
        (in_a_row.advances m h (row_whole n log i (suc m)))

    pub automatic : Automatic n t T sender log outcomes i v
    automatic = record {
      ballots = λ m j h l.
          sym (same_ballot ballot_answer (same_station m (omega arith)) (S.tells m j h l) (in_a_row.tells m h) ∙ its_ballot m);
      done_after =
          sym its_end
          ∙ (done_after_rows (setup opening) v rows).done_after
          ∙ same_answer result_answer (same_station (rounds t) (omega arith)) S.done in_a_row.done;
    }
