-- Who is bad (document 01, "Names" and "The run sheet").
use Rattle.std.specs.Prelude.{ℕ, zero, suc, ◌+◌, ◌*◌, ◌/◌, ◌%◌, ◌^◌, Bool, leb, eqb, if◌then◌else◌}
use Rattle.line.specs.Count.{count}

-- "the marks, bit i−1 for station i": i is counted from 0 here. "A station is bad if marked, otherwise good."
unfoldable pub marked : ℕ → ℕ → Bool
marked marks i = eqb (marks / 2 ^ i % 2) 1

-- the marks of all 32 stations
abbrev pub all_marks : ℕ
all_marks = 4294967295

-- f, "f counts the marked stations.": how many of the stations 0 to n - 1 are bad
abbrev pub faults : ℕ → (ℕ → Bool) → ℕ
faults n bad = count n bad

-- "a mark beyond station n" (cause 6): bit n, counted from 0, or a higher one is 1 (`BeyondNone` and `BeyondSome`)
unfoldable pub mark_beyond : ℕ → ℕ → Bool
mark_beyond n marks = leb (2 ^ n) marks

-- the marks of those of the stations 0 to n - 1 that pass the test p: bit i is 1 exactly if i does (`MarksAreLaw`)
unfoldable pub marks_of : ℕ → (ℕ → Bool) → ℕ
marks_of zero p = 0
marks_of (suc n) p = (if p n then 1 else 0) * 2 ^ n + marks_of n p
