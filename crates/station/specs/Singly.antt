-- One station run singly on the rows of a log: what `open`, `ballot`, `advance` and `result` answer. Station i is counted from 0: its number is i + 1.
use Rattle.std.specs.Prelude.{ℕ, ◌+◌, ◌<◌, ◌≡◌, List}
use Rattle.std.specs.declared.result.Result.TheVariants.{Ok}
use Rattle.line.specs.Line.{from_0, rounds, place}
use Rattle.broadcast.specs.Station.{Setup, done, ballot, result, at, after}
use Rattle.broadcast.specs.Bytes.{column}
use Rattle.broadcast.specs.Theorems.{value_at, grade_at, flag_at, garbled_at}
use Rattle.state.specs.declared.Station.{Station}
use Rattle.station.specs.declared.StationResult.TheVariants as station_result
use Rattle.station.specs.Answers.{open_answer, ballot_answer, advance_answer, result_answer}

-- Opened with these numbers and the value v, on the rows that station i received in the log: in each round it sends the log's ballots, and after R rows it is
-- done with its bytes of the outcomes. `station m` is what the caller has after m rows.
pub record Singly (n t T sender : ℕ) (log outcomes : List ℕ) (i v : ℕ) : Type 0 where
  pub station : ℕ → Station
  pub opens : open_answer n t T sender (i + 1) v ≡ Ok (station 0)
  pub tells : (m j : ℕ) → m < rounds t → j < n → ballot_answer (station m) ≡ Ok (at log (place n (m + 1) i j))
  pub running : (m : ℕ) → m < rounds t → result_answer (station m) ≡ Ok (station_result.Running (m + 1))
  pub advances : (m : ℕ) → m < rounds t → advance_answer (station m) (column n log i (m + 1)) ≡ Ok (station (m + 1))
  pub done : result_answer (station (rounds t))
      ≡ Ok (station_result.Done (value_at outcomes i) (grade_at outcomes i) (flag_at outcomes i) (garbled_at outcomes i))

-- station i of the line as the automaton's setup
abbrev pub setup_at : ℕ → ℕ → ℕ → ℕ → ℕ → Setup
setup_at n t T sender i = record { n = n; t = t; T = T; sender_from_0 = from_0 sender; own_from_0 = i }

-- the same of the automaton (`SinglyByAutomaton`): its ballots are the log's, and it ends with these bytes
pub record Automatic (n t T sender : ℕ) (log outcomes : List ℕ) (i v : ℕ) : Type 0 where
  pub ballots : (m j : ℕ) → m < rounds t → j < n
      → ballot (setup_at n t T sender i) (after (setup_at n t T sender i) v (column n log i) m) ≡ at log (place n (m + 1) i j)
  pub done_after : result (setup_at n t T sender i) (after (setup_at n t T sender i) v (column n log i) (rounds t))
      ≡ done (value_at outcomes i) (grade_at outcomes i) (flag_at outcomes i) (garbled_at outcomes i)
