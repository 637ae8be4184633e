-- Which stations broke the rules (document 02, requests 3 and 4): in the ticket's words, and then as a test.
use Rattle.std.specs.Prelude.{ℕ, ◌+◌, ◌-◌, ◌≤◌, ◌<◌, ◌≡◌, ◌↔◌, Bool, true, false, not, ◌&&◌, ◌||◌, List, eqb}
use Rattle.line.specs.Count.{all}
use Rattle.line.specs.Line.{from_0, rounds, place}
use Rattle.line.specs.Marks.{marked, marks_of}
use Rattle.broadcast.specs.Exchange.{flag_of}
use Rattle.broadcast.specs.Station.{Setup, State, Result, done, ballot, result, at, after}
use Rattle.broadcast.specs.Bytes.{column}
use Rattle.broadcast.specs.Theorems.{value_at, grade_at, flag_at, garbled_at}

-- "takes n, t, T, sender, log and outcomes": in document 01's own numbers and layout; the sender is from 1 to n
pub record Logged : Type 0 where
  pub n : ℕ
  pub t : ℕ
  pub T : ℕ
  pub sender : ℕ
  pub log : List ℕ
  pub outcomes : List ℕ

-- ---- an outcome's bytes: what depends on their number is here, in `outcome_is` and in proofs/OutcomeLaws.antt

-- the outcome that stands for station i in outcome bytes, as a station answers it
unfoldable pub outcome_at : List ℕ → ℕ → Result
outcome_at bytes i = done (value_at bytes i) (grade_at bytes i) (flag_at bytes i) (garbled_at bytes i)

-- ---- in the ticket's words

module _ (L : Logged) (i : ℕ) where
  -- station i as it is opened
  unfoldable pub station : Setup
  station = record { n = L.n; t = L.t; T = L.T; sender_from_0 = from_0 L.sender; own_from_0 = i }

  -- "with the rows it received": its state, opened with v, after the rows of rounds 1 to m, which are its columns of the log
  unfoldable pub state : ℕ → ℕ → State
  state v m = after station v (column L.n L.log i) m

  -- the value v "makes it send its logged bytes and end with its logged outcome": to every receiver in every round, itself among them
  pub record KeepsWith (v : ℕ) : Type 0 where
    pub bytes : (r j : ℕ) → 1 ≤ r → r ≤ rounds L.t → j < L.n
        → at L.log (place L.n r i j) ≡ ballot station (state v (r - 1))
    pub outcome : result station (state v (rounds L.t)) ≡ outcome_at L.outcomes i

  -- a "value of its own", 0 or 1, does: station i keeps the rules
  abbrev pub Keeps : Type 0
  Keeps = (v : ℕ) × (v ≤ 1) × KeepsWith v

-- the marks that are "the set of stations that broke the rules. A station is in it exactly if no value of its own [..] makes it": bit i is 1 exactly if station
-- i, of the n, doesn't keep the rules
pub record Exactly (L : Logged) (marks : ℕ) : Type 0 where
  pub stations : (i : ℕ) → i < L.n → (marked marks i ≡ true) ↔ (Keeps L i → ⊥)
  pub none_beyond : (i : ℕ) → L.n ≤ i → marked marks i ≡ false

-- ---- the same as a test (`KeepsIsDecided`), and the set by it (`BrokeExactly`)

-- a done station's outcome is the one that stands for station i
unfoldable pub outcome_is : State → List ℕ → ℕ → Bool
outcome_is s bytes i =
    eqb s.value (value_at bytes i)
    && (eqb s.grade (grade_at bytes i) && (eqb (flag_of s.grade) (flag_at bytes i) && eqb s.garbled (garbled_at bytes i)))

module _ (L : Logged) (i : ℕ) where
  -- in the round that m rows precede, the byte to j is the station's ballot
  unfoldable pub byte_is : ℕ → ℕ → ℕ → Bool
  byte_is v m j = eqb (at L.log (place L.n (m + 1) i j)) (ballot (station L i) (state L i v m))

  -- .. to every receiver
  unfoldable pub bytes_are : ℕ → ℕ → Bool
  bytes_are v m = all L.n (byte_is v m)

  unfoldable pub keeps_with : ℕ → Bool
  keeps_with v = all (rounds L.t) (bytes_are v) && outcome_is (state L i v (rounds L.t)) L.outcomes i

  unfoldable pub keeps : Bool
  keeps = keeps_with 0 || keeps_with 1

unfoldable pub breaks : Logged → ℕ → Bool
breaks L i = not (keeps L i)

-- the set
unfoldable pub broke : Logged → ℕ
broke L = marks_of L.n (breaks L)
