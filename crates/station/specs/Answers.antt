-- What the station's calls promise. Each answer is an enum; for each case of it a definition gives document 01's number, 0 where nothing is refused,
-- and its values.
use Rattle.std.specs.Prelude.{ℕ, ◌≡◌, List, [], ◌∷◌, length}
use Rattle.refusal.specs.declared.cause.Cause.{Cause}
use Rattle.std.specs.declared.result.Result.{Result}
use Rattle.std.specs.declared.result.Result.TheVariants.{Ok, Err}
use Rattle.refusal.specs.Cause.{number, code, given, single, values, answered}
use Rattle.refusal.specs.Cause.{Verdict}
use Rattle.broadcast.specs.Station.{ballot, advance, Result as AutomatonResult, running, done, result, at}
use Rattle.state.specs.declared.Station.{Station}
use Rattle.station.specs.declared.StationResult.{StationResult}
use Rattle.station.specs.declared.StationResult.TheVariants as station_result
use Rattle.state.specs.Judgement.{station_verdict, telling_verdict, taking_verdict, opening_verdict}
use Rattle.station.specs.Automaton.{setup_of, state_of, in_state, opened_station, result_of}

-- ---- opening

-- a station's ten bytes
abbrev pub bytes_of : Station → List ℕ
bytes_of s =
    s.n ∷ s.t ∷ s.upper ∷ s.sender ∷ s.own ∷ s.round ∷ s.value ∷ s.z ∷ s.grade ∷ s.garbled ∷ []

-- what `open` answers
abbrev pub open_answer : ℕ → ℕ → ℕ → ℕ → ℕ → ℕ → Result Station Cause
open_answer n t T sender own value = answered (opening_verdict n t T sender own value) (opened_station n t T sender own value)

pub record Opens (n t T sender own value : ℕ) (r : Result Station Cause) : Type 0 where
  pub answer : r ≡ open_answer n t T sender own value
  pub number_is : code r ≡ code (opening_verdict n t T sender own value)
  pub values_are : values bytes_of r ≡ given (opening_verdict n t T sender own value) (bytes_of (opened_station n t T sender own value))

-- ---- the ballot of the current round

-- what `ballot` answers
abbrev pub ballot_answer : Station → Result ℕ Cause
ballot_answer s = answered (telling_verdict s) (ballot (setup_of s) (state_of s))

pub record Tells (s : Station) (r : Result ℕ Cause) : Type 0 where
  pub answer : r ≡ ballot_answer s
  pub number_is : code r ≡ code (telling_verdict s)
  pub values_are : values single r ≡ given (telling_verdict s) (ballot (setup_of s) (state_of s) ∷ [])

-- ---- taking a row

-- what `advance` answers
abbrev pub advance_answer : Station → List ℕ → Result Station Cause
advance_answer s row = answered (taking_verdict s (length row)) (in_state s (advance (setup_of s) (state_of s) (at row)))

pub record Advances (s : Station) (row : List ℕ) (r : Result Station Cause) : Type 0 where
  pub answer : r ≡ advance_answer s row
  pub number_is : code r ≡ code (taking_verdict s (length row))
  pub values_are : values bytes_of r
      ≡ given (taking_verdict s (length row)) (bytes_of (in_state s (advance (setup_of s) (state_of s) (at row))))

-- ---- the result

abbrev pub result_values : StationResult → List ℕ
result_values (station_result.Running r) = r ∷ []
result_values (station_result.Done v g f k) = v ∷ g ∷ f ∷ k ∷ []

-- the automaton's result in values
abbrev pub automaton_values : AutomatonResult → List ℕ
automaton_values (running r) = r ∷ []
automaton_values (done v g f k) = v ∷ g ∷ f ∷ k ∷ []

-- what `result` answers
abbrev pub result_answer : Station → Result StationResult Cause
result_answer s = answered (station_verdict s) (result_of s)

pub record Results (s : Station) (r : Result StationResult Cause) : Type 0 where
  pub answer : r ≡ result_answer s
  pub number_is : code r ≡ code (station_verdict s)
  pub values_are : values result_values r ≡ given (station_verdict s) (automaton_values (result (setup_of s) (state_of s)))
