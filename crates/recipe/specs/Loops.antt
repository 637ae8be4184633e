-- What the private functions do: for their contracts, and no part of what the public calls promise.
use Rattle.std.specs.Prelude.{ℕ, ◌-◌, ◌*◌, ◌%◌, ◌≤◌, ◌<◌, ◌≡◌, List, length, get_or}
use Rattle.line.specs.Line.{table_length, outcome_size, outcomes_length}
use Rattle.line.specs.Width.{tables_length}
use Rattle.header.specs.Header.{SoundNumber}
use Rattle.broadcast.specs.Bytes.{log}
use Rattle.number.specs.Numbers.{NumberRun, bit_run, logs, gathered, bit_outcomes, number_outcomes}

-- outcomes of whole stations, and a part as long
pub record Alike (part outcomes : List ℕ) : Type 0 where
  pub whole : length outcomes % outcome_size ≡ 0
  pub part_size : length part ≡ length outcomes

-- a number's run that is not refused, with logs and outcomes for it
pub record Playable (N : NumberRun) (logs outcomes : List ℕ) : Type 0 where
  pub header : SoundNumber N.n N.t N.T N.sender N.number N.w N.marks
  pub tables_whole : length N.tables ≡ tables_length N.n N.t N.w
  pub logs_whole : length logs ≡ tables_length N.n N.t N.w
  pub outcomes_whole : length outcomes ≡ outcomes_length N.n

-- b bits are rehearsed: their logs are there, and their outcomes gathered
pub record Played (N : NumberRun) (b : ℕ) (bytes results : List ℕ) : Type 0 where
  pub logs_have : (k : ℕ) → k < b * table_length N.n N.t → get_or bytes k 0 ≡ get_or (logs N) k 0
  pub logs_whole : length bytes ≡ tables_length N.n N.t N.w
  pub gathered_are : 1 ≤ b → results ≡ gathered N.n N.marks b (bit_outcomes N)
  pub outcomes_whole : length results ≡ outcomes_length N.n

-- the whole run
pub record Ran (N : NumberRun) (bytes results : List ℕ) : Type 0 where
  pub logs_are : bytes ≡ logs N
  pub outcomes_are : results ≡ number_outcomes N

-- ---- one bit after another with one log

-- m bits are rehearsed: the log is the last one's, and the outcomes are gathered
pub record InTurn (N : NumberRun) (m : ℕ) (bytes results : List ℕ) : Type 0 where
  pub log_whole : length bytes ≡ table_length N.n N.t
  pub log_is : 1 ≤ m → bytes ≡ log (bit_run N (m - 1))
  pub outcomes_whole : length results ≡ outcomes_length N.n
  pub outcomes_are : 1 ≤ m → results ≡ gathered N.n N.marks m (bit_outcomes N)
