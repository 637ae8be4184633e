-- What is shown of the line. Each statement has a name here, and proofs/Theorems.antt has the law that proves it.
use Rattle.std.specs.Prelude.{ℕ, ◌≤◌, length}
use Rattle.refusal.specs.declared.cause.Cause.{Cause}
use Rattle.std.specs.declared.result.Result.{Result}
use Rattle.finding.specs.Finding.{finding}

-- no line is longer than 93 bytes: a buffer of so many holds every one whole
abbrev pub FindingShort : Type 0
FindingShort = (answer : Result ℕ Cause) → length (finding answer) ≤ 93
