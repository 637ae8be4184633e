-- What is shown of the chain. Each statement has a name here, and proofs/Theorems.antt has the law that proves it.
use Rattle.std.specs.Prelude.{ℕ, ◌<◌, ◌≡◌, List}
use Rattle.layout.specs.Layout.{records}
use Rattle.layout.specs.Chain.{Record, reached, Leaves, Again, Ends, Fate}

-- every chain has a fate
abbrev pub HasFate : Type 0
HasFate = (s : List ℕ) → Fate s

-- "of which only one can arise": a chain that leaves repeats no record, and one that ends does neither
abbrev pub OnlyOne : Type 0
OnlyOne = (s : List ℕ) → (Leaves s → Again s → ⊥) × ((m : ℕ) → Ends s m → (Leaves s → ⊥) × (Again s → ⊥))

-- Walking k steps tells the fate: the index reached then is 0 exactly if the chain ends, above k exactly if the chain leaves, and otherwise, exactly
-- then, a record is reached again.
pub record WalkTells (s : List ℕ) : Type 0 where
  pub zero_ends : reached s (records s) ≡ 0 → (m : ℕ) × Ends s m
  pub ends_zero : (m : ℕ) → Ends s m → reached s (records s) ≡ 0
  pub above_leaves : records s < reached s (records s) → Leaves s
  pub leaves_above : Leaves s → records s < reached s (records s)
  pub inside_repeats : Record s (reached s (records s)) → Again s
  pub repeats_inside : Again s → Record s (reached s (records s))

abbrev pub Walk : Type 0
Walk = (s : List ℕ) → WalkTells s
