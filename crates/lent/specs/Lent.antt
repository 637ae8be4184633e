-- What advancing a lent station promises.
use Rattle.std.specs.Prelude.{ℕ, ◌≡◌, List, length}
use Rattle.refusal.specs.declared.cause.Cause.{Cause}
use Rattle.std.specs.declared.result.Result.{Result}
use Rattle.std.specs.declared.result.Result.TheVariants.{Ok, Err}
use Rattle.refusal.specs.Cause.{number, code, answered}
use Rattle.refusal.specs.Cause.{Verdict}
use Rattle.broadcast.specs.Station.{advance, at}
use Rattle.state.specs.declared.Station.{Station}
use Rattle.state.specs.Judgement.{taking_verdict}
use Rattle.station.specs.Automaton.{setup_of, state_of, in_state}

-- the station after a row, the same where it is refused
abbrev pub moved_if : Verdict → Station → Station → Station
moved_if (Ok _) new old = new
moved_if (Err c) new old = old

unfoldable pub advanced_or_same : Station → List ℕ → Station
advanced_or_same s row =
    moved_if (taking_verdict s (length row)) (in_state s (advance (setup_of s) (state_of s) (at row))) s

-- `vembopu_advance_lent`: the answer, document 01's number, 0 where nothing is refused; and the station at exit, as it was where the row is refused
pub record AdvancesLent (before : Station) (row : List ℕ) (after : Station) (r : ℕ) : Type 0 where
  pub answer_is : r ≡ code (taking_verdict before (length row))
  pub station_is : after ≡ advanced_or_same before row
