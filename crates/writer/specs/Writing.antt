-- What the writer's calls answer, and what they promise.
use Rattle.std.specs.Prelude.{ℕ, ◌≡◌, List, [], ◌∷◌, length}
use Rattle.refusal.specs.declared.cause.Cause.{Cause}
use Rattle.std.specs.declared.result.Result.{Result}
use Rattle.std.specs.declared.result.Result.TheVariants.{Ok, Err}
use Rattle.refusal.specs.Cause.{number, code, written, given, single, values, answered}
use Rattle.refusal.specs.Cause.{Verdict}
use Rattle.layout.specs.Layout.{header}
use Rattle.selection.specs.Places.{how_many}
use Rattle.writer.specs.Sheet.{sheet, sheet_length}
use Rattle.writer.specs.Judgement.{before_buffer, write_verdict}

-- ---- the promises, for every header, every table and every buffer

pub record Needs (h table : List ℕ) (answer : Result ℕ Cause) : Type 0 where
  pub answer_is : answer ≡ answered (before_buffer h table) (sheet_length h table)
  pub number_is : code answer ≡ code (before_buffer h table)
  pub values_are : values single answer ≡ given (before_buffer h table) (sheet_length h table ∷ [])

-- `sheet₀` is the lent buffer at entry, `sheet₁` at exit
pub record Writes (h table sheet₀ sheet₁ : List ℕ) (answer : Result ℕ Cause) : Type 0 where
  pub answer_is : answer ≡ answered (write_verdict h table (length sheet₀)) (how_many (header h) table)
  pub number_is : code answer ≡ code (write_verdict h table (length sheet₀))
  pub values_are : values single answer ≡ given (write_verdict h table (length sheet₀)) (how_many (header h) table ∷ [])
  -- every byte of the buffer at exit: the sheet's, or as it was
  pub sheet_is : sheet₁ ≡ written (write_verdict h table (length sheet₀)) (sheet h table) sheet₀
