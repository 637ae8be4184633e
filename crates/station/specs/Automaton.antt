-- The station's struct as the automaton of crate broadcast: what stays (Setup) and what changes (State). The struct numbers stations from 1, the
-- automaton from 0.
use Rattle.std.specs.Prelude.{ℕ}
use Rattle.line.specs.Line.{from_0}
use Rattle.broadcast.specs.Station.{Setup, State, opened, Result, running, done, result}
use Rattle.state.specs.declared.Station.{Station}
use Rattle.station.specs.declared.StationResult.{StationResult}
use Rattle.station.specs.declared.StationResult.TheVariants.{Running, Done}

abbrev pub setup_of : Station → Setup
setup_of s =
    record { n = s.n; t = s.t; T = s.upper; sender_from_0 = from_0 s.sender; own_from_0 = from_0 s.own }

abbrev pub state_of : Station → State
state_of s = record { round = s.round; value = s.value; z = s.z; grade = s.grade; garbled = s.garbled }

-- the same station in another state
abbrev pub in_state : Station → State → Station
in_state s st = record {
  n = s.n;
  t = s.t;
  upper = s.upper;
  sender = s.sender;
  own = s.own;
  round = st.round;
  value = st.value;
  z = st.z;
  grade = st.grade;
  garbled = st.garbled;
}

-- a station with these numbers in a state
abbrev pub station_in : ℕ → ℕ → ℕ → ℕ → ℕ → State → Station
station_in n t T sender own st = record {
  n = n;
  t = t;
  upper = T;
  sender = sender;
  own = own;
  round = st.round;
  value = st.value;
  z = st.z;
  grade = st.grade;
  garbled = st.garbled;
}

unfoldable pub opened_station : ℕ → ℕ → ℕ → ℕ → ℕ → ℕ → Station
opened_station n t T sender own value = station_in n t T sender own (opened value)

-- the automaton's result as the call's answer
abbrev pub as_result : Result → StationResult
as_result (running r) = Running r
as_result (done v g f k) = Done v g f k

unfoldable pub result_of : Station → StationResult
result_of s = as_result (result (setup_of s) (state_of s))
