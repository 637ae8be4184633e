-- What the private functions of the rehearsal do: for their contracts, and no part of what the public call promises.
use Rattle.std.specs.Prelude.{ℕ, ◌+◌, ◌*◌, ◌<◌, ◌≡◌, false, List, length, get_or}
use Rattle.line.specs.Line.{table_length}
use Rattle.line.specs.Marks.{marked}
use Rattle.header.specs.Header.{Sound}
use Rattle.broadcast.specs.Station.{after}
use Rattle.broadcast.specs.Bytes.{Run, log, outcomes, setup, column}
use Rattle.round.specs.declared.Stations.{Stations}
use Rattle.round.specs.Round.{state_at}

-- a run that is not refused, with a log for it
pub record Playable (R : Run) (bytes : List ℕ) : Type 0 where
  pub header : Sound R.n R.t R.T R.sender R.value R.marks
  pub table_whole : length R.table ≡ table_length R.n R.t
  pub log_whole : length bytes ≡ table_length R.n R.t

-- m rounds are played: each good station is as its automaton is after m of its rows, and the log has the run's bytes of m rounds
pub record Played (R : Run) (m : ℕ) (stations : Stations) (bytes : List ℕ) : Type 0 where
  pub stations_are : (i : ℕ) → i < R.n → marked R.marks i ≡ false
      → state_at stations (m + 1) i ≡ after (setup R i) R.value (column R.n (log R) i) m
  pub log_has : (k : ℕ) → k < m * (R.n * R.n) → get_or bytes k 0 ≡ get_or (log R) k 0
  pub log_whole : length bytes ≡ table_length R.n R.t

-- the whole run
pub record Ran (R : Run) (bytes results : List ℕ) : Type 0 where
  pub log_is : bytes ≡ log R
  pub outcomes_are : results ≡ outcomes R
