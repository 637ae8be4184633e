-- The lines of a listing, field by field (document 01, "Runs worked through"; document 02, requests 4 and 5).
use Rattle.std.specs.Prelude.{ℕ, zero, suc, ◌+◌, List, [], ◌∷◌, eqb, if◌then◌else◌}
use Rattle.std.specs.declared.result.Result.TheVariants.{Ok, Err}
use Rattle.line.specs.Line.{rounds}
use Rattle.refusal.specs.Cause.{number}
use Rattle.refusal.specs.Cause.{Verdict}
use Rattle.broadcast.specs.Theorems.{value_at, grade_at, flag_at, garbled_at}
use Rattle.number.specs.Numbers.{NumberRun, number_outcomes}
use Rattle.header.specs.declared.Header.{Header}
use Rattle.layout.specs.Layout.{header, tables_wanted}
use Rattle.layout.specs.Chain.{Fate}
use Rattle.judgement.specs.Judgement.{sheet_verdict}
use Rattle.reader.specs.Reading.{table_of}

-- a field: a fixed word, a number, or a dash
pub data Field : Type 0 where
  agree : Field
  refused : Field
  num : ℕ → Field
  dash : Field

-- "First line: the fixed word `agree`, then n, t, T, sender, R."
abbrev pub first_line : Header → List Field
first_line h = agree ∷ num h.line.n ∷ num h.line.t ∷ num h.line.upper ∷ num h.sender ∷ num (rounds h.line.t) ∷ []

-- "a line a station: number, value, grade, flag", and request 4: "the listing gets the count as its last field: [..] its last line has four dashes":
-- station i, counted from 0, by the outcome bytes. Request 5: "A bad station is told by grade 255, since 255 can be a recipe."
unfoldable pub station_line : List ℕ → ℕ → List Field
station_line bytes i =
    if eqb (grade_at bytes i) 255
    then num (i + 1) ∷ dash ∷ dash ∷ dash ∷ dash ∷ []
    else num (i + 1) ∷ num (value_at bytes i) ∷ num (grade_at bytes i) ∷ num (flag_at bytes i) ∷ num (garbled_at bytes i) ∷ []

-- the lines of the stations from i on, m of them
unfoldable pub station_lines : List ℕ → ℕ → ℕ → List (List Field)
station_lines bytes i zero = []
station_lines bytes i (suc m) = station_line bytes i ∷ station_lines bytes (suc i) m

-- "A refusal prints the one line `refused` and the number."
abbrev pub lines_by : Verdict → Header → List ℕ → List (List Field)
lines_by (Ok _) h bytes = first_line h ∷ station_lines bytes 0 h.line.n
lines_by (Err c) h bytes = (refused ∷ num (number c) ∷ []) ∷ []

-- ---- from the sheet to its listing

-- the run that a sheet's header and its bits' tables make
abbrev pub run : Header → List ℕ → NumberRun
run h tables =
    record { n = h.line.n; t = h.line.t; T = h.line.upper; sender = h.sender; number = h.value; w = h.w; marks = h.marks; tables = tables }

-- the verdict on a sheet that is read into tables of its line's own length
unfoldable pub verdict : (s : List ℕ) → Fate s → Verdict
verdict s fate = sheet_verdict s (tables_wanted s) fate

-- the listing of a sheet: what the reader and then the rehearsal of its number make of it
unfoldable pub lines : (s : List ℕ) → Fate s → List (List Field)
lines s fate = lines_by (verdict s fate) (header s) (number_outcomes (run (header s) (table_of s fate)))
