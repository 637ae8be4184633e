-- A station and the answers of its calls as numbers, and what each call promises. What is answered is what the station's calls by value answer
-- (crates/station/specs/Answers.antt): each case of their enums has its number and its values here.
use Rattle.std.specs.Prelude.{ℕ, ◌+◌, ◌*◌, ◌/◌, ◌%◌, ◌≡◌, List}
use Rattle.std.specs.Result.{result_unwrap_or}
use Rattle.refusal.specs.declared.cause.Cause.{Cause}
use Rattle.std.specs.declared.result.Result.{Result}
use Rattle.std.specs.declared.result.Result.TheVariants.{Ok, Err}
use Rattle.refusal.specs.Cause.{answer_word, code}
use Rattle.state.specs.declared.Station.{Station}
use Rattle.station.specs.declared.StationResult.{StationResult}
use Rattle.station.specs.declared.StationResult.TheVariants as station_result
use Rattle.station.specs.Answers.{open_answer, ballot_answer, advance_answer, result_answer}

-- five bytes as one number, the lowest first
abbrev pub word : ℕ → ℕ → ℕ → ℕ → ℕ → ℕ
word a b c d e = a + 256 * b + 65536 * c + 16777216 * d + 4294967296 * e

-- a state: round, value, z, grade, and the count of garbled rounds
abbrev pub state_word : Station → ℕ
state_word s = word s.round s.value s.z s.grade s.garbled

-- the station that C hands over: what it was opened with, and its state, of which the five lowest bytes are looked at
unfoldable pub station_of : ℕ → ℕ → ℕ → ℕ → ℕ → ℕ → Station
station_of n t T sender own state = record {
  n = n;
  t = t;
  upper = T;
  sender = sender;
  own = own;
  round = state % 256;
  value = state / 256 % 256;
  z = state / 65536 % 256;
  grade = state / 16777216 % 256;
  garbled = state / 4294967296 % 256;
}

-- ---- the values of each answer

-- the new state; none where it is refused
abbrev pub opened_word : Result Station Cause → ℕ
opened_word (Ok s) = state_word s
opened_word (Err c) = 0

-- the ballot
-- the next state; that of the station handed in where it is refused, since causes 7 and 8 leave the station as it was
abbrev pub advanced_word : Station → Result Station Cause → ℕ
advanced_word before (Ok s) = state_word s
advanced_word before (Err c) = state_word before

-- 0 and the round while running, 1 and value, grade, flag and the count when done
abbrev pub result_word : Result StationResult Cause → ℕ
result_word (Ok (station_result.Running r)) = word 0 r 0 0 0
result_word (Ok (station_result.Done v g f k)) = word 1 v g f k
result_word (Err c) = 0

-- ---- the promises

-- `vembopu_open`: what `station::open` answers
pub record OpenAnswer (n t T sender own value r : ℕ) : Type 0 where
  pub answer : let o = open_answer n t T sender own value in r ≡ answer_word (code o) (opened_word o)

-- `vembopu_ballot`: what `station::ballot` answers
pub record BallotAnswer (n t T sender own state r : ℕ) : Type 0 where
  pub answer : let o = ballot_answer (station_of n t T sender own state) in r ≡ answer_word (code o) (result_unwrap_or o 0)

-- `vembopu_advance`: what `station::advance` answers
pub record AdvanceAnswer (n t T sender own state : ℕ) (row : List ℕ) (r : ℕ) : Type 0 where
  pub answer : let s = station_of n t T sender own state in
      let o = advance_answer s row in
      r ≡ answer_word (code o) (advanced_word s o)

-- `vembopu_result`: what `station::result` answers
pub record ResultAnswer (n t T sender own state r : ℕ) : Type 0 where
  pub answer : let o = result_answer (station_of n t T sender own state) in r ≡ answer_word (code o) (result_word o)
