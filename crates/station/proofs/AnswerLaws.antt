-- An answer's number and values follow from the verdict. Assumes nothing.
use Prim.Native.Nat.{ℕ}
use Rattle.refusal.specs.declared.cause.Cause.{Cause}
use Rattle.std.specs.declared.result.Result.{Result}
use mathlib.Core.Path.{◌≡◌, refl, ap, ◌∙◌}
use mathlib.Core.List.{List}
use lib.ListN.{length}
use Rattle.refusal.specs.Cause.{given, answered, single}
use Rattle.refusal.proofs.VerdictLaws.{code_by, values_by}
use Rattle.broadcast.specs.Station.{ballot, advance, Result as AutomatonResult, running, done, result, at}
use Rattle.state.specs.declared.Station.{Station}
use Rattle.station.specs.declared.StationResult.{StationResult}
use Rattle.state.specs.Judgement.{station_verdict, telling_verdict, taking_verdict, opening_verdict}
use Rattle.station.specs.Automaton.{setup_of, state_of, in_state, opened_station, as_result, result_of}
use Rattle.station.specs.Answers.{bytes_of, Opens, Tells, Advances, result_values, automaton_values, Results}

pub opens : (n t T sender own value : ℕ) (r : Result Station Cause)
    → r ≡ answered (opening_verdict n t T sender own value) (opened_station n t T sender own value) → Opens n t T sender own value r
opens n t T sender own value r e = record { answer = e; number_is = code_by _ _ e; values_are = values_by bytes_of _ _ e }

pub tells : (s : Station) (r : Result ℕ Cause) → r ≡ answered (telling_verdict s) (ballot (setup_of s) (state_of s)) → Tells s r
tells s r e = record { answer = e; number_is = code_by _ _ e; values_are = values_by single _ _ e }

pub advances : (s : Station) (row : List ℕ) (r : Result Station Cause)
    → r ≡ answered (taking_verdict s (length row)) (in_state s (advance (setup_of s) (state_of s) (at row))) → Advances s row r
advances s row r e = record { answer = e; number_is = code_by _ _ e; values_are = values_by bytes_of _ _ e }

same_values : (q : AutomatonResult) → result_values (as_result q) ≡ automaton_values q
same_values (running r) = refl
same_values (done v g f k) = refl

pub results : (s : Station) (r : Result StationResult Cause) → r ≡ answered (station_verdict s) (result_of s) → Results s r
unfolding result_of
results s r e = record { answer = e; number_is = code_by _ _ e; values_are = values_by result_values _ _ e ∙ ap (given (station_verdict s)) (same_values _) }
