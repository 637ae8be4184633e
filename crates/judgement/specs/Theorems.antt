-- What is shown of the definitions. Each statement has a name here, and proofs/Theorems.antt has the law that proves it.
use Rattle.std.specs.Prelude.{ℕ, ◌+◌, ◌*◌, ◌≤◌, ◌≡◌, List, length}
use Rattle.refusal.specs.Cause.{no_cause}
use Rattle.layout.specs.Layout.{most_records, records}
use Rattle.judgement.specs.Judgement.{sheet_form}

-- ---- the sheet's length

-- cause 1 lets a sheet through exactly if its length is 12 + 8k with k from 0 to 4,096; and then k is the number of records
pub record WellFormed (s : List ℕ) (k : ℕ) : Type 0 where
  pub length_is : length s ≡ 12 + 8 * k
  pub most : k ≤ most_records

abbrev pub FormAccepts : Type 0
FormAccepts = (s : List ℕ) (k : ℕ) → WellFormed s k → (sheet_form s ≡ no_cause) × (records s ≡ k)

abbrev pub FormSound : Type 0
FormSound = (s : List ℕ) → sheet_form s ≡ no_cause → WellFormed s (records s)
