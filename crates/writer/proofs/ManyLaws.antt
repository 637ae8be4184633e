-- Laws of cause 14: which verdicts it can be told from, and when writing is refused by it. Assumes nothing.
use Prim.Native.Nat.{ℕ, ◌^◌, ◌<◌}
use Rattle.std.specs.declared.result.Result.TheVariants.{Ok, Err}
use mathlib.Core.Path.{◌≡◌, refl, ap, ◌∙◌}
use mathlib.Core.Bool.{Bool, true, false, not}
use mathlib.Core.Logic.{◌≢◌, ◌↔◌}
use mathlib.Core.List.{List}
use native.Mathlib.Omega.{arith}
use lib.Dec.{leb, ltb, eqb}
use lib.ListN.{length}
use borrow.Author.Tests.{ltb-true, lt-ltb}
use Rattle.line.specs.Line.{most_stations}
use Rattle.line.specs.Width.{most_bits, bits}
use Rattle.line.specs.Marks.{mark_beyond}
use Rattle.refusal.specs.Cause.{number, code, refused_if, ◌or_else◌, no_cause}
use Rattle.refusal.specs.declared.cause.Cause.{Cause}
use Rattle.refusal.specs.declared.cause.Cause.TheVariants.{SheetForm, StationCount, Thresholds, StationNumber, Value, MarkBeyond, Length, TooManyRecords, Width}
use Rattle.refusal.specs.Cause.{Verdict}
use Rattle.refusal.proofs.VerdictLaws.{refused_true}
use Rattle.header.specs.Header.{outside, exceeded, station_count, thresholds, station_number, number_within, marks_within, width, line_verdict, number_verdict, exact_length}
use Rattle.layout.specs.Layout.{header, tables_wanted, most_records}
use Rattle.judgement.specs.Judgement.{header_length, ill_formed, sheet_form, verdict_to_6, verdict_to_8}
use Rattle.selection.specs.Places.{how_many}
use Rattle.writer.specs.Sheet.{sheet_length}
use Rattle.writer.specs.Judgement.{header_and_table, too_many, before_buffer, write_verdict}

-- ---- verdicts that are not 14

abbrev Other : Verdict → Type 0
Other v = code v ≢ 14

if_other : (b : Bool) (c : Cause) → number c ≢ 14 → Other (refused_if b c)
unfolding refused_if
if_other true c h = h
if_other false c h = λ e. omega arith

or_other : (v w : Verdict) → Other v → Other w → Other (v or_else w)
or_other (Ok _) w a b = b
or_other (Err c) w a b = a

line_other : (n t T : ℕ) → Other (line_verdict n t T)
unfolding line_verdict station_count thresholds
line_other n t T =
    or_other (station_count n) (thresholds n t T)
    (if_other (outside 1 most_stations n) StationCount (λ e. omega arith)) (if_other (exceeded n t T) Thresholds (λ e. omega arith))

number_other : (n t T sender number w marks : ℕ) → Other (number_verdict n t T sender number w marks)
unfolding number_verdict width station_number number_within marks_within
number_other n t T sender number w marks =
    or_other (width w) _ (if_other (ltb most_bits w) Width (λ e. omega arith))
    (or_other (line_verdict n t T) _ (line_other n t T)
    (or_other (station_number n sender) _ (if_other (outside 1 n sender) StationNumber (λ e. omega arith))
    (or_other (number_within w number) (marks_within n marks)
    (if_other (leb (2 ^ bits w) number) Value (λ e. omega arith)) (if_other (mark_beyond n marks) MarkBeyond (λ e. omega arith)))))

length_other : (wanted found : ℕ) → Other (exact_length wanted found)
unfolding exact_length
length_other wanted found = if_other _ Length (λ e. omega arith)

to_8_other : (h : List ℕ) (l : ℕ) → Other (verdict_to_8 h l)
unfolding verdict_to_8 verdict_to_6 sheet_form
to_8_other h l =
    let g = header h in
    or_other (verdict_to_6 h) (exact_length (tables_wanted h) l)
    (or_other (sheet_form h) _ (if_other (ill_formed h) SheetForm (λ e. omega arith))
    (number_other g.line.n g.line.t g.line.upper g.sender g.value g.w g.marks))
    (length_other (tables_wanted h) l)

taken_other : (h : List ℕ) (l : ℕ) → Other (header_and_table h l)
unfolding header_and_table header_length
taken_other h l =
    or_other (header_length h) (verdict_to_8 h l) (if_other (not (eqb (length h) 12)) SheetForm (λ e. omega arith)) (to_8_other h l)

-- ---- cause 14

module _ (h table : List ℕ) (size : ℕ) where
  -- refused by 14: nothing before it, and more than 4,096
  told : write_verdict h table size ≡ Err TooManyRecords → (header_and_table h (length table) ≡ no_cause) × (most_records < how_many (header h) table)
  unfolding write_verdict before_buffer too_many refused_if
  told e = go (header_and_table h (length table)) refl (ltb most_records (how_many (header h) table)) refl e
    where
      go : (v : Verdict) → header_and_table h (length table) ≡ v → (b : Bool) → ltb most_records (how_many (header h) table) ≡ b
          → (v or_else refused_if b TooManyRecords) or_else exact_length (sheet_length h table) size ≡ Err TooManyRecords
          → (header_and_table h (length table) ≡ no_cause) × (most_records < how_many (header h) table)
      go (Ok _) p true q r = (p, ltb-true most_records (how_many (header h) table) q)
      go (Ok _) p false q r = absurd (length_other (sheet_length h table) size (ap code r))
      go (Err c) p b q r = absurd (taken_other h (length table) (ap code p ∙ ap code r))

  -- and the other way
  tells : (header_and_table h (length table) ≡ no_cause) × (most_records < how_many (header h) table) → write_verdict h table size ≡ Err TooManyRecords
  unfolding write_verdict before_buffer too_many
  tells (e, l) = rw (e, refused_true TooManyRecords (lt-ltb most_records (how_many (header h) table) l))

  pub refused_by_14 : (write_verdict h table size ≡ Err TooManyRecords)
      ↔ ((header_and_table h (length table) ≡ no_cause) × (most_records < how_many (header h) table))
  refused_by_14 = (told, tells)
