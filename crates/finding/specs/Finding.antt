-- The line that tells the checker's answer: the word `broke` and the numbers of the stations in the set, in order, or, as in a listing, `refused` and the number. One space
-- before each number, a newline at the end.
use Rattle.std.specs.Prelude.{ℕ, zero, suc, ◌+◌, List, [], ◌∷◌, ◌++◌, if◌then◌else◌}
use Rattle.refusal.specs.declared.cause.Cause.{Cause}
use Rattle.std.specs.declared.result.Result.{Result}
use Rattle.std.specs.declared.result.Result.TheVariants.{Ok, Err}
use Rattle.line.specs.Line.{most_stations}
use Rattle.line.specs.Marks.{marked}
use Rattle.refusal.specs.Cause.{number}
use Rattle.text.specs.Decimal.{space, newline, numeral}
use Rattle.listing_lines.specs.Lines.{refused, num}
use Rattle.listing_lines.specs.Text.{text}

-- station i's number, which is i + 1, if it is in the set
unfoldable pub number_if : ℕ → ℕ → List ℕ
number_if marks i = if marked marks i then space ∷ numeral (i + 1) else []

-- those of the stations 0 to m - 1
unfoldable pub numbers : ℕ → ℕ → List ℕ
numbers marks zero = []
numbers marks (suc m) = numbers marks m ++ number_if marks m

-- the word `broke`
abbrev pub broke_word : List ℕ
broke_word = 98 ∷ 114 ∷ 111 ∷ 107 ∷ 101 ∷ []

unfoldable pub broke_line : ℕ → List ℕ
broke_line marks = broke_word ++ (numbers marks most_stations ++ newline ∷ [])

abbrev pub finding : Result ℕ Cause → List ℕ
finding (Ok marks) = broke_line marks
finding (Err c) = text ((refused ∷ num (number c) ∷ []) ∷ [])
