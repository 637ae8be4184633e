-- Which cause a sheet is refused by (document 01, "Refused causes"; document 02, request 5): each cause a test of its own, in the order that the document gives.
use Rattle.std.specs.Prelude.{ℕ, zero, suc, ◌+◌, ◌*◌, Bool, not, ◌&&◌, ◌||◌, List, leb, ltb, eqb, length}
use Rattle.std.specs.declared.result.Result.TheVariants.{Err}
use Rattle.line.specs.Count.{count}
use Rattle.line.specs.Line.{from_0, rounds}
use Rattle.line.specs.Marks.{marked}
use Rattle.line.specs.Width.{bits}
use Rattle.refusal.specs.Cause.{refused_if, ◌or_else◌, no_cause}
use Rattle.header.specs.Header.{outside, number_verdict, exact_length}
use Rattle.refusal.specs.declared.cause.Cause.TheVariants.{SheetForm, ChainLeaves, ChainRepeats, RecordForm, UnmarkedSender, Duplicate}
use Rattle.refusal.specs.Cause.{Verdict}
use Rattle.layout.specs.Layout.{header, table_wanted, tables_wanted, most_records, records, round, from, to, bit, rest}
use Rattle.layout.specs.Chain.{reached, Fate, leaves, again, ends}

-- ---- 1 to 8

-- "sheet length not 12 + 8k with k from 0 to 4,096"; request 5: "Cause 1 no longer looks at byte 5"
unfoldable pub ill_formed : List ℕ → Bool
ill_formed s = not (eqb (length s) (12 + 8 * records s)) || ltb most_records (records s)

unfoldable pub sheet_form : List ℕ → Verdict
sheet_form s = refused_if (ill_formed s) SheetForm

-- a header handed in by itself (request 1): "A header not of 12 bytes is 1."
unfoldable pub header_length : List ℕ → Verdict
header_length h = refused_if (not (eqb (length h) 12)) SheetForm

-- then 15, "right after the sheet's length", and 2 to 6 of the header
unfoldable pub verdict_to_6 : List ℕ → Verdict
verdict_to_6 s =
    let h = header s in
    sheet_form s or_else number_verdict h.line.n h.line.t h.line.upper h.sender h.value h.w h.marks

-- "The lowest number wins up to 8.": with a lent table for all bits, of this length
unfoldable pub verdict_to_8 : List ℕ → ℕ → Verdict
verdict_to_8 s table_size = verdict_to_6 s or_else exact_length (tables_wanted s) table_size

-- ---- reading one bit alone

-- "a bit not below w by 11": of the bit that is asked for
unfoldable pub bit_there : List ℕ → ℕ → Verdict
bit_there s b = refused_if (leb (bits (header s).w) b) RecordForm

-- with a lent table for one bit, of this length; the bit asked for is judged after it
unfoldable pub bit_to_8 : List ℕ → ℕ → ℕ → Verdict
bit_to_8 s b table_size = verdict_to_6 s or_else exact_length (table_wanted s) table_size or_else bit_there s b

-- ---- 11 to 13, of one record

-- "a record's round outside 1 to R, a station outside 1 to n"; request 5: "a bit not below w by 11", and "11 wants only record byte 7 to be zero": of the
-- record with index i
unfoldable pub misplaced : List ℕ → ℕ → Bool
misplaced s i =
    outside 1 (rounds (header s).line.t) (round s i)
    || outside 1 (header s).line.n (from s i)
    || outside 1 (header s).line.n (to s i)
    || leb (bits (header s).w) (bit s i)
    || not (eqb (rest s i) 0)

unfoldable pub record_form : List ℕ → ℕ → Verdict
record_form s i = refused_if (misplaced s i) RecordForm

-- "a record's from is not marked"
unfoldable pub unmarked_sender : List ℕ → ℕ → Verdict
unmarked_sender s i = refused_if (not (marked (header s).marks (from_0 (from s i)))) UnmarkedSender

-- "the same round, from and to", and request 5: "13 compares the bit too": of two indices
unfoldable pub same_place : List ℕ → ℕ → ℕ → Bool
same_place s i j =
    eqb (round s i) (round s j) && eqb (from s i) (from s j) && eqb (to s i) (to s j) && eqb (bit s i) (bit s j)

-- "an earlier chained record has the same round, from and to": as the record at position m of the chain
unfoldable pub taken_before : List ℕ → ℕ → Bool
taken_before s m = ltb 0 (count m (λ a. same_place s (reached s a) (reached s m)))

unfoldable pub duplicate : List ℕ → ℕ → Verdict
duplicate s m = refused_if (taken_before s m) Duplicate

-- "each for 11, 12, 13": the record at position m of the chain
unfoldable pub record_verdict : List ℕ → ℕ → Verdict
record_verdict s m =
    record_form s (reached s m)
    or_else unmarked_sender s (reached s m)
    or_else duplicate s m

-- "Then the records are taken in chain order, [..] and the first hit is given.": of the first m records of the chain
unfoldable pub records_verdict : List ℕ → ℕ → Verdict
records_verdict s zero = no_cause
records_verdict s (suc m) = records_verdict s m or_else record_verdict s m

-- ---- the whole order

-- "Then the whole chain is walked for 9 and 10, of which only one can arise. Then the records"
abbrev pub chain_verdict : (s : List ℕ) → Fate s → Verdict
chain_verdict s (leaves l) = Err ChainLeaves
chain_verdict s (again a) = Err ChainRepeats
chain_verdict s (ends m e) = records_verdict s m

-- a sheet, with a lent table for all bits, of this length
unfoldable pub sheet_verdict : (s : List ℕ) → ℕ → Fate s → Verdict
sheet_verdict s table_size fate = verdict_to_8 s table_size or_else chain_verdict s fate

-- .. and for bit b alone: the whole sheet is judged, whatever bits its records have
unfoldable pub bit_verdict : (s : List ℕ) → ℕ → ℕ → Fate s → Verdict
bit_verdict s b table_size fate = bit_to_8 s b table_size or_else chain_verdict s fate
