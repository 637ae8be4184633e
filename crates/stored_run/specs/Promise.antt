-- What a run promises of the table that it is lent: it is as the reader leaves it.
use Rattle.std.specs.Prelude.{ℕ, List}
use Rattle.header.specs.declared.Header.{Header}
use Rattle.refusal.specs.declared.cause.Cause.{Cause}
use Rattle.std.specs.declared.result.Result.{Result}
use Rattle.reader.specs.Reading.{Reads}

-- `table₀` is the lent table at entry, `table₁` at exit
pub record Leaves (s table₀ table₁ : List ℕ) : Type 0 where
  pub reading : Result Header Cause
  pub reads : Reads s table₀ table₁ reading
