-- The text of a listing, byte by byte (document 01, "Runs worked through"): one space between fields, a newline after every line.
use Rattle.std.specs.Prelude.{ℕ, List, [], ◌∷◌, ◌++◌}
use Rattle.text.specs.Decimal.{newline, space, decimal}
use Rattle.listing_lines.specs.Lines.{Field, agree, refused, num, dash}

-- a field: the words `agree` and `refused`, a number, or `-`
abbrev pub field_text : Field → List ℕ
field_text agree = 97 ∷ 103 ∷ 114 ∷ 101 ∷ 101 ∷ []
field_text refused = 114 ∷ 101 ∷ 102 ∷ 117 ∷ 115 ∷ 101 ∷ 100 ∷ []
field_text (num x) = decimal x
field_text dash = 45 ∷ []

-- the fields after the first, and the line's end
abbrev pub more_text : List Field → List ℕ
more_text [] = newline ∷ []
more_text (f ∷ fs) = (space ∷ field_text f) ++ more_text fs

abbrev pub line_text : List Field → List ℕ
line_text [] = newline ∷ []
line_text (f ∷ fs) = field_text f ++ more_text fs

abbrev pub text : List (List Field) → List ℕ
text [] = []
text (l ∷ ls) = line_text l ++ text ls
