-- What the program rewrite writes: the normal form of a sheet, or of one that is refused the line that the program agree writes too.
use Rattle.std.specs.Prelude.{ℕ, List}
use Rattle.listing_lines.specs.Output.{Output}
use Rattle.normal_form.specs.Normal.{rewritten}

-- so many bytes at the buffer's start are all of it
abbrev pub Rewritten : List ℕ → List ℕ → ℕ → Type 0
Rewritten s out answer = Output s (rewritten s) out answer
