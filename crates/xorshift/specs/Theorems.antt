-- What is shown of the state. Each statement has a name here, and proofs/Theorems.antt has the law that proves it.
use Rattle.std.specs.Prelude.{ℕ, ◌+◌, ◌<◌, ◌≡◌, ◌≢◌}
use Rattle.xorshift.specs.State.{states, next, state_after, before}

-- the first three states from 2463534242 and the first four from 1, as numbers
pub record KnownStates : Type 0 where
  pub large_1 : state_after 1 2463534242 ≡ 723471715
  pub large_2 : state_after 2 2463534242 ≡ 2497366906
  pub large_3 : state_after 3 2463534242 ≡ 2064144800
  pub one_1 : state_after 1 1 ≡ 270369
  pub one_2 : state_after 2 1 ≡ 67634689
  pub one_3 : state_after 3 1 ≡ 2647435461
  pub one_4 : state_after 4 1 ≡ 307599695

abbrev pub KnownStatesLaw : Type 0
KnownStatesLaw = KnownStates

-- the state stays one of 32 bits
abbrev pub StatesStay : Type 0
StatesStay = (m x : ℕ) → x < states → state_after m x < states

-- each step can be undone, so no two states have the same next one
abbrev pub StepUndone : Type 0
StepUndone = (x : ℕ) → x < states → before (next x) ≡ x

-- from a seed that isn't zero the state never is
abbrev pub NeverZero : Type 0
NeverZero = (m seed : ℕ) → seed < states → seed ≢ 0 → state_after m seed ≢ 0

-- steps run on: as many more from the state that was reached
abbrev pub StepsRunOn : Type 0
StepsRunOn = (a b x : ℕ) → state_after (a + b) x ≡ state_after b (state_after a x)
