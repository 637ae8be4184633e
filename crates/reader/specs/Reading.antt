-- What the reader fills and answers, and what it promises.
use Rattle.std.specs.Prelude.{ℕ, zero, suc, ◌+◌, ◌*◌, ◌≡◌, List, [], ◌∷◌, length, set, replicate}
use Rattle.refusal.specs.declared.cause.Cause.{Cause}
use Rattle.std.specs.declared.result.Result.{Result}
use Rattle.std.specs.declared.result.Result.TheVariants.{Ok, Err}
use Rattle.line.specs.Line.{from_0, place}
use Rattle.line.specs.Width.{part_of}
use Rattle.line.specs.Ballot.{silence}
use Rattle.refusal.specs.Cause.{number, code, written, given, values, answered}
use Rattle.refusal.specs.Cause.{Verdict}
use Rattle.header.specs.declared.Header.{Header}
use Rattle.layout.specs.Layout.{header, table_wanted, tables_wanted, round, from, to, ballot, bit}
use Rattle.layout.specs.Chain.{reached, Fate, leaves, again, ends}
use Rattle.judgement.specs.Judgement.{sheet_verdict, bit_verdict}

-- ---- the table

-- the place in the tables of the record with index i: in its bit's (request 5: "The buffers hold the bits' tables one after another, bit 0 first")
unfoldable pub place_of : List ℕ → ℕ → ℕ
place_of s i = bit s i * table_wanted s + place (header s).line.n (round s i) (from_0 (from s i)) (from_0 (to s i))

-- "The reader fills a run table: 255 everywhere, then each chained ballot in its place": the tables of all bits, after the first m records of the chain
unfoldable pub filled : List ℕ → ℕ → List ℕ
filled s zero = replicate (tables_wanted s) silence
filled s (suc m) = set (filled s m) (place_of s (reached s m)) (ballot s (reached s m))

-- the tables of a sheet whose chain ends; no other sheet has any
abbrev pub table_of : (s : List ℕ) → Fate s → List ℕ
table_of s (leaves l) = []
table_of s (again a) = []
table_of s (ends m e) = filled s m

-- bit b's table alone
abbrev pub bit_table : (s : List ℕ) → Fate s → ℕ → List ℕ
bit_table s f b = part_of (table_wanted s) (table_of s f) b

-- ---- the answer's values: the header's numbers

-- n, t, T, sender, value, w, marks
abbrev pub numbers_of : Header → List ℕ
numbers_of h = h.line.n ∷ h.line.t ∷ h.line.upper ∷ h.sender ∷ h.value ∷ h.w ∷ h.marks ∷ []

-- The promise, for every sheet and every buffer. `table₀` is the lent buffer for the tables of all bits at entry, `table₁` at exit.
pub record Reads (s table₀ table₁ : List ℕ) (answer : Result Header Cause) : Type 0 where
  -- what becomes of the sheet's chain: whatever shows it, verdict and table are the same (`OneFate` of Theorems.antt)
  pub fate : Fate s
  -- the header's numbers, or the refusal
  pub answer_is : answer ≡ answered (sheet_verdict s (length table₀) fate) (header s)
  pub number_is : code answer ≡ code (sheet_verdict s (length table₀) fate)
  pub values_are : values numbers_of answer ≡ given (sheet_verdict s (length table₀) fate) (numbers_of (header s))
  -- every byte of the table at exit: the sheet's, or as it was
  pub table_is : table₁ ≡ written (sheet_verdict s (length table₀) fate) (table_of s fate) table₀

-- and where one bit is read, into a buffer for one table
pub record ReadsBit (s : List ℕ) (b : ℕ) (table₀ table₁ : List ℕ) (answer : Result Header Cause) : Type 0 where
  pub fate : Fate s
  pub answer_is : answer ≡ answered (bit_verdict s b (length table₀) fate) (header s)
  pub number_is : code answer ≡ code (bit_verdict s b (length table₀) fate)
  pub values_are : values numbers_of answer ≡ given (bit_verdict s b (length table₀) fate) (numbers_of (header s))
  pub table_is : table₁ ≡ written (bit_verdict s b (length table₀) fate) (bit_table s fate b) table₀
