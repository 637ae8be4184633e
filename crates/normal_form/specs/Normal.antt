-- The normal form of an accepted sheet: "rewriting a read sheet drops unchained records and records of silence".
use Rattle.std.specs.Prelude.{ℕ, ◌-◌, ◌≤◌, ◌<◌, ◌≡◌, Bool, true, not, ◌≢◌, List, eqb, length, take}
use Rattle.refusal.specs.Cause.{no_cause}
use Rattle.line.specs.Count.{count}
use Rattle.line.specs.Ballot.{silence}
use Rattle.layout.specs.Layout.{byte, header, records, round, from, to, ballot, bit}
use Rattle.layout.specs.Chain.{Record, reached, Ends, Fate}
use Rattle.judgement.specs.Judgement.{sheet_verdict}
use Rattle.reader.specs.Reading.{place_of, table_of}
use Rattle.writer.specs.Sheet.{sheet}
use Rattle.writer.specs.Judgement.{before_buffer}

-- a sheet rewritten: its header's twelve bytes and the tables that it reads as, written
unfoldable pub rewritten : (s : List ℕ) → Fate s → List ℕ
rewritten s f = sheet (take 12 s) (table_of s f)

-- the record at position a of the chain has a ballot other than silence
unfoldable pub speaking : List ℕ → ℕ → Bool
speaking s a = not (eqb (ballot s (reached s a)) silence)

-- the record with index i of one sheet and the record with index j of another have the same round, from, to, ballot and bit
pub record SameContent (s : List ℕ) (i : ℕ) (s' : List ℕ) (j : ℕ) : Type 0 where
  pub a_record : Record s' j
  pub round_same : round s' j ≡ round s i
  pub from_same : from s' j ≡ from s i
  pub to_same : to s' j ≡ to s i
  pub ballot_same : ballot s' j ≡ ballot s i
  pub bit_same : bit s' j ≡ bit s i

-- a sheet in its normal form: no record is outside the chain, none is of silence, and they stand in the order of the tables: by bit, then
-- round, from, to
pub record Tidy (s : List ℕ) : Type 0 where
  pub chained : (i : ℕ) → Record s i → reached s (i - 1) ≡ i
  pub ends_there : Ends s (records s)
  pub spoken : (i : ℕ) → Record s i → ballot s i ≢ silence
  pub in_order : (i j : ℕ) → Record s i → Record s j → i < j → place_of s i < place_of s j

-- what rewriting makes of an accepted sheet
pub record Rewrites (s : List ℕ) (f : Fate s) : Type 0 where
  -- nothing refuses it before the buffer's length is looked at, 14 neither
  pub writable : before_buffer (take 12 s) (table_of s f) ≡ no_cause
  -- it is no longer than it was
  pub no_longer : length (rewritten s f) ≤ length s
  pub tidy : Tidy (rewritten s f)
  -- it has a record for each chained one that is not of silence, and no other
  pub number_is : (m : ℕ) → Ends s m → records (rewritten s f) ≡ count m (speaking s)
  pub keeps : (a : ℕ) → Record s (reached s a) → speaking s a ≡ true → (i : ℕ) × SameContent s (reached s a) (rewritten s f) i
  -- it reads the same
  pub accepted : (g : Fate (rewritten s f)) → sheet_verdict (rewritten s f) (length (table_of s f)) g ≡ no_cause
  pub header_same : header (rewritten s f) ≡ header s
  pub table_same : (g : Fate (rewritten s f)) → table_of (rewritten s f) g ≡ table_of s f
  -- and rewriting it again changes no byte
  pub again_same : (g : Fate (rewritten s f)) → rewritten (rewritten s f) g ≡ rewritten s f

-- two sheets that read alike: the header's bytes beside the first index, and the tables
pub record ReadAlike (s s' : List ℕ) (f : Fate s) (f' : Fate s') : Type 0 where
  pub before_same : (b : ℕ) → b < 6 → byte s b ≡ byte s' b
  pub behind_same : (b : ℕ) → 8 ≤ b → b < 12 → byte s b ≡ byte s' b
  pub table_same : table_of s f ≡ table_of s' f'
