-- What a program writes of a sheet: bytes of its own for one that is accepted, the line of the refusal for one that is not.
use Rattle.std.specs.Prelude.{ℕ, ◌≤◌, ◌≡◌, List, [], ◌∷◌, length, take}
use Rattle.std.specs.declared.result.Result.TheVariants.{Ok, Err}
use Rattle.refusal.specs.Cause.{number}
use Rattle.refusal.specs.Cause.{Verdict}
use Rattle.layout.specs.Chain.{Fate}
use Rattle.listing_lines.specs.Lines.{refused, num, verdict}
use Rattle.listing_lines.specs.Text.{text}

abbrev pub output_by : Verdict → List ℕ → List ℕ
output_by (Ok _) bytes = bytes
output_by (Err c) bytes = text ((refused ∷ num (number c) ∷ []) ∷ [])

-- so many bytes at the buffer's start are the whole output, where `bytes` are those of an accepted sheet
pub record Output (s : List ℕ) (bytes : Fate s → List ℕ) (out : List ℕ) (answer : ℕ) : Type 0 where
  pub fate : Fate s
  pub inside : answer ≤ length out
  pub whole : take answer out ≡ output_by (verdict s fate) (bytes fate)
