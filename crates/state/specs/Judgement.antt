-- What a station's calls refuse: causes 2, 3, 4, 5, 7 and 8, the lowest first (document 01, "Refused causes"; document 02, request 4).
use Rattle.std.specs.Prelude.{ℕ, ◌+◌, ◌≤◌, ◌<◌, ◌≡◌, Bool, ◌||◌, List, leb, ltb, eqb, length}
use Rattle.line.specs.Line.{Fits, rounds}
use Rattle.refusal.specs.Cause.{refused_if, ◌or_else◌}
use Rattle.header.specs.Header.{outside, line_verdict, station_number, bit, exact_length}
use Rattle.refusal.specs.declared.cause.Cause.TheVariants.{StationState}
use Rattle.refusal.specs.Cause.{Verdict}
use Rattle.state.specs.declared.Station.{Station}

-- "a station state whose round is outside 1 to R+1, value above 1, z or grade above 2", and (request 4) "A state whose count is not below its round": the
-- count is at or above the round
unfoldable pub foreign_state : ℕ → ℕ → ℕ → ℕ → ℕ → ℕ → Bool
foreign_state t round value z grade garbled =
    outside 1 (rounds t + 1) round || (ltb 1 value || (ltb 2 z || (ltb 2 grade || leb round garbled)))

unfoldable pub state_verdict : Station → Verdict
state_verdict s = refused_if (foreign_state s.t s.round s.value s.z s.grade s.garbled) StationState

-- "It is done after exactly R accepted rows."
unfoldable pub is_done : ℕ → ℕ → Bool
is_done t round = eqb round (rounds t + 1)

-- of any station: 2, 3, 4 for the sender and the own number, 7
unfoldable pub station_verdict : Station → Verdict
station_verdict s =
    line_verdict s.n s.t s.upper
    or_else station_number s.n s.sender
    or_else station_number s.n s.own
    or_else state_verdict s

-- "or a ballot or row wanted of a done station": 7
unfoldable pub telling_verdict : Station → Verdict
telling_verdict s = station_verdict s or_else refused_if (is_done s.t s.round) StationState

-- of a row, by its length: 8
unfoldable pub taking_verdict : Station → ℕ → Verdict
taking_verdict s row_size = telling_verdict s or_else exact_length s.n row_size

-- of what a station is opened with: 2, 3, 4, 5
unfoldable pub opening_verdict : ℕ → ℕ → ℕ → ℕ → ℕ → ℕ → Verdict
opening_verdict n t T sender own value =
    line_verdict n t T
    or_else station_number n sender
    or_else station_number n own
    or_else bit value

-- a station that is not refused, in plain facts
pub record Sound (s : Station) : Type 0 where
  pub most : s.n ≤ 32
  pub fits : Fits s.n s.t s.upper
  pub sender_low : 1 ≤ s.sender
  pub sender_high : s.sender ≤ s.n
  pub own_low : 1 ≤ s.own
  pub own_high : s.own ≤ s.n
  pub round_low : 1 ≤ s.round
  pub round_high : s.round ≤ rounds s.t + 1
  pub value_bit : s.value ≤ 1
  pub z_high : s.z ≤ 2
  pub grade_high : s.grade ≤ 2
  pub garbled_below : s.garbled < s.round

-- a station that can take the row
pub record Ready (s : Station) (row : List ℕ) : Type 0 where
  pub sound : Sound s
  pub round_left : s.round ≤ rounds s.t
  pub whole : length row ≡ s.n
