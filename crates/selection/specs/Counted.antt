-- What `count` answers.
use Rattle.std.specs.Prelude.{ℕ, ◌&&◌, List, leb, eqb, length, if◌then◌else◌}
use Rattle.line.specs.Line.{most_stations}
use Rattle.line.specs.Width.{tables_length}
use Rattle.header.specs.declared.Header.{Header}
use Rattle.selection.specs.Places.{how_many}

-- how many bytes are to be written, in a line of at most 32 stations and of tables of its length; otherwise none
unfoldable pub counted : Header → List ℕ → ℕ
counted h table =
    if leb h.line.n most_stations && eqb (length table) (tables_length h.line.n h.line.t h.w) then how_many h table else 0
