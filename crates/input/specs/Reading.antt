-- What an answer tells of the buffer that was read into.
use Rattle.std.specs.Prelude.{ℕ, zero, suc, ◌+◌, ◌^◌, ◌<◌, List, Result, Ok, Err, IfOk}
use Rattle.std.specs.Counts.{IsPrefixLen}
use Rattle.std.specs.declared.io.Error.{Error}
use Rattle.std.specs.declared.ops.ControlFlow.{ControlFlow}
use Rattle.std.specs.declared.ops.ControlFlow.TheVariants.{Continue, Break}

-- as many bytes as are told of stand at the buffer's start; of a read that failed nothing is said
abbrev pub Within : Result ℕ Error → List ℕ → Type 0
Within answer buffer = IfOk answer (λ n. IsPrefixLen n buffer)

-- what is to be done after a read where `done` bytes were there: one of no byte is the end of the input, one that failed is told; after any other it is read on
unfoldable pub following : ℕ → Result ℕ Error → ControlFlow (Result ℕ Error) ℕ
following done (Ok zero) = Break (Ok done)
following done (Ok (suc k)) = Continue (done + suc k)
following done (Err why) = Break (Err why)

-- the bytes there then can be counted
abbrev pub Room : ℕ → Result ℕ Error → Type 0
Room done got = IfOk got (λ n. done + n < 2 ^ 64)
