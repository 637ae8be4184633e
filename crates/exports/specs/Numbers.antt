-- The promises of the exported calls: what the call by value promises of its answer, and that the number is that answer's.
use Rattle.std.specs.Prelude.{ℕ, ◌≡◌, List}
use Rattle.std.specs.Result.{result_unwrap_or}
use Rattle.header.specs.declared.Header.{Header}
use Rattle.refusal.specs.declared.cause.Cause.{Cause}
use Rattle.std.specs.declared.result.Result.{Result}
use Rattle.std.specs.declared.result.Result.TheVariants.{Ok, Err}
use Rattle.refusal.specs.Cause.{code, answer_word}
use Rattle.refusal.specs.Cause.{Verdict}
use Rattle.generator.specs.Promise.{Generates}
use Rattle.number.specs.Numbers.{NumberRun}
use Rattle.exchange.specs.Promise.{Exchanged}
use Rattle.recipe.specs.Promise.{RehearsedRecipe}
use Rattle.rules.specs.Rules.{Logged}
use Rattle.checker.specs.Promise.{Checks}
use Rattle.reader.specs.Reading.{Reads, ReadsBit}
use Rattle.writer.specs.Writing.{Needs, Writes}

-- `vembopu_read`: what `sheet::read` promises. The header's numbers are the sheet's own bytes.
pub record ReadNumber (s table₀ table₁ : List ℕ) (r : ℕ) : Type 0 where
  pub answer : Result Header Cause
  pub reads : Reads s table₀ table₁ answer
  pub number_is : r ≡ code answer

-- `vembopu_read_bit`: what `sheet::read_bit` promises
pub record ReadBitNumber (s : List ℕ) (b : ℕ) (table₀ table₁ : List ℕ) (r : ℕ) : Type 0 where
  pub answer : Result Header Cause
  pub reads : ReadsBit s b table₀ table₁ answer
  pub number_is : r ≡ code answer

-- `vembopu_sheet_len`: what `writer::needed` promises; the bytes below the refusal's number
pub record NeedsWord (h table : List ℕ) (r : ℕ) : Type 0 where
  pub answer : Result ℕ Cause
  pub needs : Needs h table answer
  pub word_is : r ≡ answer_word (code answer) (result_unwrap_or answer 0)

-- `vembopu_write`: what `writer::write` promises; the number of records below the refusal's number
pub record WritesWord (h table sheet₀ sheet₁ : List ℕ) (r : ℕ) : Type 0 where
  pub answer : Result ℕ Cause
  pub writes : Writes h table sheet₀ sheet₁ answer
  pub word_is : r ≡ answer_word (code answer) (result_unwrap_or answer 0)

-- `vembopu_generate`: what `generator::generate` promises
pub record GeneratesNumber (h : List ℕ) (seed : ℕ) (table₀ table₁ : List ℕ) (r : ℕ) : Type 0 where
  pub answer : Verdict
  pub generates : Generates h seed table₀ table₁ answer
  pub number_is : r ≡ code answer

-- `vembopu_rehearse`: what `recipe::rehearse` promises
pub record RehearsedNumber (N : NumberRun) (logs₀ logs₁ outcomes₀ outcomes₁ : List ℕ) (r : ℕ) : Type 0 where
  pub answer : Verdict
  pub rehearsed : RehearsedRecipe N logs₀ logs₁ outcomes₀ outcomes₁ answer
  pub number_is : r ≡ code answer

-- `vembopu_exchange`: what `exchange::exchange` promises
pub record ExchangedNumber (n t T marks : ℕ) (inputs table outcomes₀ outcomes₁ : List ℕ) (r : ℕ) : Type 0 where
  pub answer : Verdict
  pub exchanged : Exchanged n t T marks inputs table outcomes₀ outcomes₁ answer
  pub number_is : r ≡ code answer

-- `vembopu_check`: what `checker::check` promises; the marks below the refusal's number
pub record ChecksWord (L : Logged) (r : ℕ) : Type 0 where
  pub answer : Result ℕ Cause
  pub checks : Checks L answer
  pub word_is : r ≡ answer_word (code answer) (result_unwrap_or answer 0)
