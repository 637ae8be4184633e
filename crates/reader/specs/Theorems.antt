-- What is shown of the definitions. Each statement has a name here, and proofs/Theorems.antt has the law that proves it.
use Rattle.std.specs.Prelude.{ℕ, ◌+◌, ◌*◌, ◌≤◌, ◌<◌, ◌≡◌, false, ◌≢◌, List, get_or}
use Rattle.refusal.specs.Cause.{no_cause}
use Rattle.line.specs.Line.{rounds, place}
use Rattle.line.specs.Width.{bits}
use Rattle.line.specs.Marks.{marked}
use Rattle.layout.specs.Layout.{header, table_wanted, tables_wanted, ballot}
use Rattle.layout.specs.Chain.{Record, reached, Fate}
use Rattle.layout.specs.Outside.{SameChain}
use Rattle.judgement.specs.Judgement.{sheet_verdict, bit_verdict}
use Rattle.reader.specs.Reading.{place_of, table_of}

-- ---- the chain

-- whatever shows a chain's fate (`OnlyOne` of layout), the sheet has one verdict and one table
abbrev pub OneFate : Type 0
OneFate = (s : List ℕ) (f g : Fate s) → ((l : ℕ) → sheet_verdict s l f ≡ sheet_verdict s l g) × (table_of s f ≡ table_of s g)

-- ---- "A record outside the chain is ignored, its content too."

-- two sheets whose headers and chains are the same (`SameChain` of layout) are read alike
abbrev pub OutsideIgnored : Type 0
OutsideIgnored =
    (s s' : List ℕ) → SameChain s s' → (f : Fate s) (f' : Fate s')
    → ((l : ℕ) → sheet_verdict s l f ≡ sheet_verdict s' l f') × ((header s ≡ header s') × (table_of s f ≡ table_of s' f'))

-- ---- the table of an accepted sheet

-- the ballot of each record of the chain stands in its place
abbrev pub BallotsStand : Type 0
BallotsStand =
    (s : List ℕ) (l : ℕ) (f : Fate s) → sheet_verdict s l f ≡ no_cause
    → (a : ℕ) → Record s (reached s a) → get_or (table_of s f) (place_of s (reached s a)) 0 ≡ ballot s (reached s a)

-- 255 stands in every other place
abbrev pub ElseSilence : Type 0
ElseSilence =
    (s : List ℕ) (l : ℕ) (f : Fate s) → sheet_verdict s l f ≡ no_cause
    → (p : ℕ) → p < tables_wanted s
    → ((a : ℕ) → Record s (reached s a) → place_of s (reached s a) ≢ p) → get_or (table_of s f) p 0 ≡ 255

-- and so at every sender that is not marked, in each bit's table
abbrev pub UnmarkedSilent : Type 0
UnmarkedSilent =
    (s : List ℕ) (l : ℕ) (f : Fate s) → sheet_verdict s l f ≡ no_cause
    → (b r i j : ℕ) → b < bits (header s).w → 1 ≤ r → r ≤ rounds (header s).line.t → i < (header s).line.n → j < (header s).line.n
    → marked (header s).marks i ≡ false → get_or (table_of s f) (b * table_wanted s + place (header s).line.n r i j) 0 ≡ 255

-- ---- one bit alone (request 5)

-- a sheet is accepted or refused by the same cause, whether all bits are read or one of them, each into a buffer of its own length
abbrev pub JudgedEitherWay : Type 0
JudgedEitherWay =
    (s : List ℕ) (f : Fate s) (b : ℕ) → b < bits (header s).w → bit_verdict s b (table_wanted s) f ≡ sheet_verdict s (tables_wanted s) f
