-- One round of a whole line, in the automaton's words (crate broadcast, specs/Station.antt): every station tells its ballot, and takes its column of the log.
-- Stations are counted from 0.
use Rattle.std.specs.Prelude.{ℕ, ◌+◌, ◌<◌, ◌≡◌, Bool, true, false, ◌&&◌, List, ltb, length, get_or, replicate, if◌then◌else◌}
use Rattle.line.specs.Line.{has_round}
use Rattle.line.specs.Ballot.{blank}
use Rattle.broadcast.specs.Station.{Setup, State, told, moved}
use Rattle.broadcast.specs.Bytes.{tabulate}
use Rattle.step.specs.declared.Part.{Part}
use Rattle.step.specs.declared.Part.TheVariants.{Sender, First, Second, King}
use Rattle.step.specs.Part.{of_part}
use Rattle.step.specs.Noted.{noted}
use Rattle.post.specs.Posted.{posted}
use Rattle.column.specs.Column.{column}
use Rattle.garbled.specs.Found.{found}
use Rattle.round.specs.declared.Stations.{Stations}

-- station j as the automaton has it: what stays, and its state in round r
abbrev pub setup_at : ℕ → ℕ → ℕ → ℕ → ℕ → Setup
setup_at n t T sender j = record { n = n; t = t; T = T; sender_from_0 = sender; own_from_0 = j }

abbrev pub state_at : Stations → ℕ → ℕ → State
state_at s r j =
    record { round = r; value = get_or s.value j 0; z = get_or s.z j 0; grade = get_or s.grade j 0; garbled = get_or s.garbled j 0 }

-- all stations before round 1, with these values
abbrev pub all_opened : List ℕ → Stations
all_opened value = record { value = value; z = replicate 32 blank; grade = replicate 32 0; garbled = replicate 32 0 }

-- what station i tells
unfoldable pub said_by : ℕ → Part → Stations → ℕ → ℕ
said_by sender p s i = told sender i (get_or s.value i 0) (get_or s.z i 0) (of_part p)

-- each of the n stations has taken its column of the round that starts at `start`. Of the ballots that it expects only those of `senders` are looked at for
-- garbled ones, bit i for station i: who is left out is known to send none
unfoldable pub Taken : ℕ → ℕ → ℕ → ℕ → Part → ℕ → Stations → List ℕ → ℕ → Stations → Type 0
Taken n t T sender p senders s log start s' =
    (r j : ℕ) → j < n
    → state_at s' (r + 1) j
    ≡ moved (setup_at n t T sender j) (state_at s r j) (column log start n j) (noted (get_or s.garbled j 0) (found n senders sender p log start j)) (of_part p)

-- the speaker of a round in which one station speaks is of the line
abbrev pub speaker_within : ℕ → ℕ → Part → Bool
speaker_within n sender Sender = ltb sender n
speaker_within n sender First = true
speaker_within n sender Second = true
speaker_within n sender (King p) = ltb p n

-- a round that can be taken
unfoldable pub takable : ℕ → ℕ → Part → ℕ → ℕ → Bool
takable n sender p start log_size = speaker_within n sender p && has_round n start log_size

-- The promise of `take`: every station has taken its column, or all are as they were.
pub record Takes (n t T sender : ℕ) (p : Part) (senders : ℕ) (s : Stations) (log : List ℕ) (start : ℕ) (s' : Stations) : Type 0 where
  pub takes : takable n sender p start (length log) ≡ true → Taken n t T sender p senders s log start s'
  pub stays : takable n sender p start (length log) ≡ false → s' ≡ s

-- a round that can be played
unfoldable pub playable : ℕ → ℕ → Part → ℕ → ℕ → ℕ → Bool
playable n sender p start log_size table_size =
    speaker_within n sender p && (has_round n start log_size && has_round n start table_size)

-- The promise of `play`. `log₀` is the log at entry, `log₁` at exit, `s` are the stations handed in, `s'` those given back.
pub record Plays (n t T sender : ℕ) (p : Part) (s : Stations) (marks : ℕ) (table : List ℕ) (start : ℕ) (log₀ log₁ : List ℕ) (s' : Stations) : Type 0 where
  -- every byte of the log: with the round's ballots, or as it was
  pub log_is : log₁
      ≡ (if playable n sender p start (length log₀) (length table) then posted n marks (tabulate n (said_by sender p s)) table log₀ start else log₀)
  -- every station has taken its column, with the marked senders looked at for garbled ballots, or all are as they were
  pub takes : playable n sender p start (length log₀) (length table) ≡ true → Taken n t T sender p marks s log₁ start s'
  pub stays : playable n sender p start (length log₀) (length table) ≡ false → s' ≡ s
