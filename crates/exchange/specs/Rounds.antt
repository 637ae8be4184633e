-- What the private functions of the exchange had alone do: for their contracts, and no part of what the public call promises.
use Rattle.std.specs.Prelude.{ℕ, ◌≤◌, ◌<◌, ◌≡◌, List, length, get_or}
use Rattle.line.specs.Line.{Fits, exchange_length, outcomes_length}
use Rattle.line.specs.Marks.{marked}
use Rattle.broadcast.specs.Exchange.{y, grade}
use Rattle.broadcast.specs.Garbled.{garbled_alone}
use Rattle.broadcast.specs.Station.{at}
use Rattle.broadcast.specs.Bytes.{setting}
use Rattle.broadcast.specs.Guarantees.{Good}
use Rattle.round.specs.declared.Stations.{Stations}

-- every good station enters with 0 or 1
unfoldable pub Bits : ℕ → ℕ → List ℕ → Type 0
Bits n marks inputs = (i : ℕ) → Good n (marked marks) i → at inputs i ≤ 1

-- what an accepted exchange is handed
pub record Ready (n t T marks : ℕ) (inputs : List ℕ) (table_size outcomes_size : ℕ) : Type 0 where
  pub most : n ≤ 32
  pub fits : Fits n t T
  pub inputs_whole : length inputs ≡ n
  pub table_whole : table_size ≡ exchange_length n
  pub outcomes_whole : outcomes_size ≡ outcomes_length n
  pub bits : Bits n marks inputs

-- each station has its y, grade and count
pub record Graded (n t T marks : ℕ) (inputs table : List ℕ) (s : Stations) : Type 0 where
  pub y_is : (j : ℕ) → j < n → get_or s.value j 0 ≡ y (setting n t T marks table) 1 (at inputs) j
  pub grade_is : (j : ℕ) → j < n → get_or s.grade j 0 ≡ grade (setting n t T marks table) 1 (at inputs) j
  pub garbled_is : (j : ℕ) → j < n → get_or s.garbled j 0 ≡ garbled_alone (setting n t T marks table) (at inputs) j
