-- Laws of a chain's fate: whatever shows it, the sheet has one verdict and one table. Assumes nothing.
use Prim.Native.Nat.{ℕ}
use mathlib.Core.Path.{◌≡◌, refl}
use mathlib.Core.List.{List}
use Rattle.layout.specs.Chain.{Fate, leaves, again, ends}
use Rattle.layout.proofs.ChainLaws.{leaves_or_again, ends_or_again, ends_or_leaves, one_length}
use Rattle.judgement.specs.Judgement.{chain_verdict, sheet_verdict}
use Rattle.reader.specs.Reading.{table_of}

module _ (s : List ℕ) where
  -- two fates of a chain give one verdict and one table
  pub one_chain : (f g : Fate s) → (chain_verdict s f ≡ chain_verdict s g) × (table_of s f ≡ table_of s g)
  one_chain (leaves l) (leaves k) = (refl, refl)
  one_chain (leaves l) (again a) = absurd (leaves_or_again s l a)
  one_chain (leaves l) (ends m e) = absurd (ends_or_leaves s m e l)
  one_chain (again a) (leaves l) = absurd (leaves_or_again s l a)
  one_chain (again a) (again b) = (refl, refl)
  one_chain (again a) (ends m e) = absurd (ends_or_again s m e a)
  one_chain (ends m e) (leaves l) = absurd (ends_or_leaves s m e l)
  one_chain (ends m e) (again a) = absurd (ends_or_again s m e a)
  one_chain (ends m e) (ends l g) = let q = one_length s m l e g in (rw q, rw q)

  -- and so the sheet has one verdict and one table
  pub one_fate : (f g : Fate s) → ((l : ℕ) → sheet_verdict s l f ≡ sheet_verdict s l g) × (table_of s f ≡ table_of s g)
  unfolding sheet_verdict
  one_fate f g = let (v, t) = one_chain f g in (λ l. rw v, t)
