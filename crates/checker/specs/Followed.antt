-- What the private functions of the checker do: for their contracts, and no part of what the public call promises.
use Rattle.std.specs.Prelude.{ℕ, ◌+◌, ◌*◌, ◌<◌, ◌≤◌, ◌≡◌, Bool, ◌&&◌, not, List, eqb, get_or, if◌then◌else◌}
use Rattle.line.specs.Count.{all}
use Rattle.line.specs.Line.{most_stations, from_0, place, outcome_size}
use Rattle.line.specs.Ballot.{sender_value}
use Rattle.broadcast.specs.Exchange.{flag_of}
use Rattle.broadcast.specs.Station.{at}
use Rattle.round.specs.Round.{state_at}
use Rattle.rules.specs.Rules.{Logged, state, bytes_are}
use Rattle.rules.specs.Theorems.{Fitting}
use Rattle.checker.specs.declared.Course.{Course}

-- a line and a log that are not refused
pub record Checkable (L : Logged) : Type 0 where
  pub most : L.n ≤ most_stations
  pub fitting : Fitting L

-- the one value that is tried
unfoldable pub tried_value : Logged → ℕ
tried_value L = sender_value (at L.log (place L.n 1 (from_0 L.sender) 0))

-- after m rounds of the log: each station is as its automaton is after m of its rows, and has sent what it should or not
pub record Followed (L : Logged) (v m : ℕ) (c : Course) : Type 0 where
  pub stations_are : (i : ℕ) → i < L.n → state_at c.stations (m + 1) i ≡ state L i v m
  pub kept_are : (i : ℕ) → i < L.n → get_or c.kept i 0 ≡ (if all m (bytes_are L i v) then 1 else 0)

-- ---- the end

unfoldable pub ends_as : ℕ → ℕ → ℕ → List ℕ → ℕ → Bool
ends_as value grade garbled bytes k =
    eqb value (get_or bytes k 0)
    && (eqb grade (get_or bytes (k + 1) 0) && (eqb (flag_of grade) (get_or bytes (k + 2) 0) && eqb garbled (get_or bytes (k + 3) 0)))

unfoldable pub breach : ℕ → Bool → Bool
breach kept ends = not (not (eqb kept 0) && ends)

unfoldable pub breaches : List ℕ → List ℕ → List ℕ → List ℕ → List ℕ → ℕ → Bool
breaches value grade garbled kept bytes i =
    breach (get_or kept i 0) (ends_as (get_or value i 0) (get_or grade i 0) (get_or garbled i 0) bytes (outcome_size * i))
