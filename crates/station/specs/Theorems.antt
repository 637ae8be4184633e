-- What is shown of the calls' answers: a station's calls in a row, and on the rows of a log. Each statement has a name here, and proofs/Theorems.antt has the law that
-- proves it.
use Rattle.std.specs.Prelude.{ℕ, suc, ◌+◌, ◌<◌, ◌≡◌, ◌↔◌, List, length}
use Rattle.refusal.specs.Cause.{no_cause}
use Rattle.std.specs.declared.result.Result.TheVariants.{Ok, Err}
use Rattle.line.specs.Line.{from_0, rounds}
use Rattle.refusal.specs.declared.cause.Cause.TheVariants.{StationState}
use Rattle.broadcast.specs.Exchange.{flag_of}
use Rattle.broadcast.specs.Station.{Setup, State, ballot, after}
use Rattle.state.specs.declared.Station.{Station}
use Rattle.station.specs.declared.StationResult.TheVariants as station_result
use Rattle.state.specs.Judgement.{opening_verdict}
use Rattle.station.specs.Automaton.{station_in}
use Rattle.station.specs.Answers.{open_answer, ballot_answer, advance_answer, result_answer}
use Rattle.station.specs.Singly.{Singly, Automatic}

-- what a station is opened with
pub record Opening : Type 0 where
  pub n : ℕ
  pub t : ℕ
  pub T : ℕ
  pub sender : ℕ
  pub own : ℕ
  pub value : ℕ

-- it as the automaton's setup, and the automaton's state after m of these rows
abbrev pub setup : Opening → Setup
setup o = record { n = o.n; t = o.t; T = o.T; sender_from_0 = from_0 o.sender; own_from_0 = from_0 o.own }

abbrev pub state_after : Opening → (ℕ → List ℕ) → ℕ → State
state_after o rows m = after (setup o) o.value rows m

-- the station's struct then
abbrev pub station_after : Opening → (ℕ → List ℕ) → ℕ → Station
station_after o rows m = station_in o.n o.t o.T o.sender o.own (state_after o rows m)

-- What the calls answer, one after another. The rows are those of rounds 1, 2, ..; only such of n bytes are taken.
pub record InARow (o : Opening) (rows : ℕ → List ℕ) : Type 0 where
  -- it is opened
  pub opens : open_answer o.n o.t o.T o.sender o.own o.value ≡ Ok (station_after o rows 0)
  -- in each round it tells its ballot and takes its row
  pub tells : (m : ℕ) → m < rounds o.t → ballot_answer (station_after o rows m) ≡ Ok (ballot (setup o) (state_after o rows m))
  pub advances : (m : ℕ) → m < rounds o.t → length (rows (suc m)) ≡ o.n
      → advance_answer (station_after o rows m) (rows (suc m)) ≡ Ok (station_after o rows (suc m))
  -- "It is done after exactly R accepted rows."
  pub running : (m : ℕ) → m < rounds o.t → result_answer (station_after o rows m) ≡ Ok (station_result.Running (m + 1))
  pub done : let s = state_after o rows (rounds o.t) in
      result_answer (station_after o rows (rounds o.t)) ≡ Ok (station_result.Done s.value s.grade (flag_of s.grade) s.garbled)
  -- and refuses by 7 what is wanted of it then, whatever the row's length
  pub tells_no_more : ballot_answer (station_after o rows (rounds o.t)) ≡ Err StationState
  pub takes_no_more : (row : List ℕ) → advance_answer (station_after o rows (rounds o.t)) row ≡ Err StationState

-- a station that is opened with accepted numbers is never refused, on any rows of n bytes, before it is done
abbrev pub CallsInARow : Type 0
CallsInARow =
    (o : Opening) → opening_verdict o.n o.t o.T o.sender o.own o.value ≡ no_cause → (rows : ℕ → List ℕ) → InARow o rows

-- a station that is opened with accepted numbers answers as a log and outcomes have it exactly if the automaton does what they have
abbrev pub SinglyByAutomaton : Type 0
SinglyByAutomaton =
    (n t T sender : ℕ) (log outcomes : List ℕ) (i v : ℕ) → opening_verdict n t T sender (i + 1) v ≡ no_cause
    → Singly n t T sender log outcomes i v ↔ Automatic n t T sender log outcomes i v
