-- The proof of each statement of specs/Theorems.antt.
use Rattle.xorshift.specs.Theorems.{KnownStatesLaw, StatesStay, StepUndone, NeverZero, StepsRunOn}
use Rattle.xorshift.proofs.StateLaws as state

pub known_states : KnownStatesLaw
known_states = state.known

pub states_stay : StatesStay
states_stay = state.stays

pub step_undone : StepUndone
step_undone = state.undone

pub never_zero : NeverZero
never_zero = state.never_zero

pub steps_run_on : StepsRunOn
steps_run_on = state.runs_on
