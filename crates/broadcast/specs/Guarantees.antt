-- What is guaranteed, said of numbers only: who is bad, and what each station enters with, decides and flags. No step of a protocol is
-- named here.
use Rattle.std.specs.Prelude.{ℕ, ◌≤◌, ◌<◌, ◌≡◌, ◌≢◌, Bool, false}
use Rattle.line.specs.Marks.{faults}

-- station i is one of the n and isn't marked
abbrev pub Good : ℕ → (ℕ → Bool) → ℕ → Type 0
Good n bad i = (i < n) × (bad i ≡ false)

-- Source 001, Definition 6 (ExtValGC): station i enters with x i and leaves with y i and grade g i. f is `faults n bad`.
pub record GradedConsensus (n t T : ℕ) (bad : ℕ → Bool) (x y g : ℕ → ℕ) : Type 0 where
  -- "decides on an output value y_i and a grade value g_i ∈ {0, 1, 2}"
  pub range : (i : ℕ) → Good n bad i → (y i ≤ 1) × (g i ≤ 2)
  -- f at most T, and all good stations enter with v: all leave with v and grade 1 or 2
  pub validity : faults n bad ≤ T → (v : ℕ) → ((i : ℕ) → Good n bad i → x i ≡ v)
      → (i : ℕ) → Good n bad i → (y i ≡ v) × (1 ≤ g i)
  -- "and in particular, g_i = 2 if at most t players are corrupted"
  pub validity_at_t : faults n bad ≤ t → (v : ℕ) → ((i : ℕ) → Good n bad i → x i ≡ v)
      → (i : ℕ) → Good n bad i → (y i ≡ v) × (g i ≡ 2)
  -- f at most t, and a good station has grade 1 or 2: all good stations have its y
  pub detection_at_t : faults n bad ≤ t → (i : ℕ) → Good n bad i → 1 ≤ g i → (j : ℕ) → Good n bad j → y j ≡ y i
  -- f at most T, and a good station has grade 2: all good stations have its y
  pub detection : faults n bad ≤ T → (i : ℕ) → Good n bad i → g i ≡ 2 → (j : ℕ) → Good n bad j → y j ≡ y i

-- Demand 3, of a whole run (source 001, Definition 2): station i decides `decides i`, and raises its flag exactly if `flags i` is 1. 001's g = 1, a station
-- that is sure, is our flag 0. The sentences quoted without a source are the demand's own (docs/AUDIT.md, "What is asked").
pub record TwoThreshold (values n t T : ℕ) (bad : ℕ → Bool) (sender_from_0 value : ℕ) (decides flags : ℕ → ℕ) : Type 0 where
  -- 001: "decides on an output value y_i ∈ D and a grade value g_i ∈ {0, 1}", where D is 0 to `values` − 1: 0 and 1 of a bit
  pub range : (i : ℕ) → Good n bad i → (decides i < values) × (flags i ≤ 1)
  -- "if f is at most t, all good stations decide one value and none raises its flag"
  pub agreement : faults n bad ≤ t → (i j : ℕ) → Good n bad i → Good n bad j → decides i ≡ decides j
  pub no_flag : faults n bad ≤ t → (i : ℕ) → Good n bad i → flags i ≡ 0
  -- "if f is at most T and the sender is good, all good stations decide the sender's value"
  pub extended_validity : faults n bad ≤ T → Good n bad sender_from_0 → (i : ℕ) → Good n bad i → decides i ≡ value
  -- "if f is at most T and two good stations decide differently, every good station raises its flag"
  pub consistency_detection : faults n bad ≤ T → (i j : ℕ) → Good n bad i → Good n bad j → decides i ≢ decides j
      → (k : ℕ) → Good n bad k → flags k ≡ 1
  -- "and if any good station raises its flag, f exceeds t"
  pub flag_soundness : (i : ℕ) → Good n bad i → flags i ≡ 1 → t < faults n bad
