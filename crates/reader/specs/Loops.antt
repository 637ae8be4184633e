-- What the private functions of the reader do: for their contracts, and no part of what the public call promises.
use Rattle.std.specs.Prelude.{ℕ, zero, suc, ◌+◌, ◌-◌, ◌*◌, ◌/◌, ◌%◌, ◌^◌, ◌≤◌, ◌<◌, ◌≡◌, Bool, List, leb, ltb, length, get_or, take, drop, set, replicate, if◌then◌else◌}
use Rattle.std.specs.declared.result.Result.{Result}
use Rattle.std.specs.declared.result.Result.TheVariants.{Ok, Err}
use Rattle.std.specs.Int.Bits.{bit_or}
use Rattle.line.specs.Line.{from_0, rounds, table_length, place}
use Rattle.line.specs.declared.Line.{Line}
use Rattle.line.specs.Width as width
use Rattle.line.specs.Marks.{marked}
use Rattle.line.specs.Ballot.{silence}
use Rattle.refusal.specs.Cause.{refused_if, ◌or_else◌, written, no_cause, answered}
use Rattle.header.specs.Header.{SoundNumber}
use Rattle.refusal.specs.declared.cause.Cause.{Cause}
use Rattle.refusal.specs.declared.cause.Cause.TheVariants.{ChainLeaves, ChainRepeats, Duplicate}
use Rattle.refusal.specs.Cause.{Verdict}
use Rattle.header.specs.declared.Header.{Header}
use Rattle.layout.specs.declared.Record.{Record}
use Rattle.layout.specs.Layout.{header, tables_wanted, records, most_records, ballot}
use Rattle.layout.specs.Chain as Chain
use Rattle.layout.specs.Chain.{reached, Ends, Fate}
use Rattle.judgement.specs.Judgement.{verdict_to_6, records_verdict, chain_verdict}
use Rattle.judgement.specs.Numbers.{numbers_verdict}
use Rattle.reader.specs.Reading.{place_of, table_of}
use Rattle.reader.specs.declared.fill.Placed.{Placed}

-- a header that causes 15 and 2 to 6 let through
abbrev pub SoundHeader : Header → Type 0
SoundHeader h = SoundNumber h.line.n h.line.t h.line.upper h.sender h.value h.w h.marks

-- a ballot and its place, of the one number that they are kept as
unfoldable pub place_in : Placed → ℕ
place_in p = p.packed / 256

unfoldable pub ballot_in : Placed → ℕ
ballot_in p = p.packed % 256

pub record Holds (p : Placed) (place ballot : ℕ) : Type 0 where
  pub place_is : place_in p ≡ place
  pub ballot_is : ballot_in p ≡ ballot

-- nothing kept
abbrev pub none : Placed
none = record { packed = 0 }

-- a sheet that causes 1, 15 and 2 to 6 let through, with its header, and room for all ballots with their places
pub record Walkable (s : List ℕ) (h : Header) (kept : List Placed) : Type 0 where
  pub judged : verdict_to_6 s ≡ no_cause
  pub header_is : h ≡ header s
  pub kept_length : length kept ≡ 4096

-- ---- the places seen: a bit for each place of the largest tables, 32 to a number

unfoldable pub unseen : List ℕ
unseen = replicate 9216 0

unfoldable pub is_seen : List ℕ → ℕ → Bool
is_seen places p = marked (get_or places (p / 32) 0) (p % 32)

unfoldable pub with_place : List ℕ → ℕ → List ℕ
with_place places p = set places (p / 32) (bit_or (get_or places (p / 32) 0) (2 ^ (p % 32)))

-- those of the first m records of the chain
unfoldable pub seen : List ℕ → ℕ → List ℕ
seen s zero = unseen
seen s (suc m) = with_place (seen s m) (place_of s (reached s m))

-- refused if the place p was seen
unfoldable pub looked : List ℕ → ℕ → Verdict
looked places p = refused_if (is_seen places p) Duplicate

-- ---- one record

-- its place, by its numbers, in the tables of a line
unfoldable pub place_by : Line → Record → ℕ
place_by l r = r.bit * table_length l.n l.t + place l.n r.round (from_0 r.from) (from_0 r.to)

-- 11, 12 and 13, by the places seen
unfoldable pub record_by : Header → Record → List ℕ → Verdict
record_by h r places =
    numbers_verdict h.line.n (rounds h.line.t) (width.bits h.w) h.marks r or_else looked places (place_by h.line r)

-- a record judged: one that passes is seen, and its ballot is kept with its place
pub record Taken (h : Header) (r : Record) (seen₀ seen₁ : List ℕ) (kept : Placed) (v : Verdict) : Type 0 where
  pub verdict_is : v ≡ record_by h r seen₀
  pub seen_is : v ≡ no_cause → seen₁ ≡ with_place seen₀ (place_by h.line r)
  pub kept_is : v ≡ no_cause → Holds kept (place_by h.line r) r.ballot

-- ---- the walk

-- what the index i tells, where the walk stops, if a chain that ends tells w
unfoldable pub walked_by : (k i : ℕ) → Result ℕ Cause → Result ℕ Cause
walked_by k i w = if ltb k i then Err ChainLeaves else (if ltb 0 i then Err ChainRepeats else w)

-- i is the index at position m of the chain, and of the records before it the first hit is c
pub record Hit (s : List ℕ) (m i : ℕ) (c : Cause) : Type 0 where
  pub position : m ≤ records s
  pub at : i ≡ reached s m
  pub chained : (a : ℕ) → a < m → Chain.Record s (reached s a)
  pub judged : records_verdict s m ≡ Err c

-- the record with index i is kept so
abbrev pub KeptOf : List ℕ → ℕ → Placed → Type 0
KeptOf s i p = Holds p (place_of s i) (ballot s i)

-- the first m records of the chain are kept
abbrev pub Kept : List ℕ → ℕ → List Placed → Type 0
Kept s m kept = (a : ℕ) → a < m → KeptOf s (reached s a) (get_or kept a none)

-- a chain of m records that pass, all kept
pub record Whole (s : List ℕ) (m : ℕ) (kept : List Placed) : Type 0 where
  pub chain : Ends s m
  pub most : m ≤ most_records
  pub judged : records_verdict s m ≡ no_cause
  pub all_kept : Kept s m kept
  pub kept_length : length kept ≡ 4096

-- what the walk tells holds
abbrev pub Told : List ℕ → List Placed → Result ℕ Cause → Type 0
Told s kept (Ok m) = Whole s m kept
Told s kept (Err c) = (f : Fate s) × (chain_verdict s f ≡ Err c)

-- and what it tells after a hit
abbrev pub Fated : List ℕ → Result ℕ Cause → Type 0
Fated s (Ok m) = ⊥
Fated s (Err c) = (f : Fate s) × (chain_verdict s f ≡ Err c)

-- ---- the lent table: the part of all bits' tables from the place `start` on

-- a sheet that causes 1, 15 and 2 to 6 let through, and such a part of this length
pub record Opened (s : List ℕ) (start size : ℕ) : Type 0 where
  pub judged : verdict_to_6 s ≡ no_cause
  pub within : start + size ≤ tables_wanted s

-- what reading it comes to, by the chain's verdict
pub record ReadsPart (s : List ℕ) (start : ℕ) (table₀ table₁ : List ℕ) (answer : Result Header Cause) : Type 0 where
  pub fate : Fate s
  pub answer_is : answer ≡ answered (chain_verdict s fate) (header s)
  pub table_is : table₁ ≡ written (chain_verdict s fate) (take (length table₀) (drop start (table_of s fate))) table₀

-- a ballot in its place, if that is in the part
unfoldable pub put_at : List ℕ → ℕ → Placed → List ℕ
put_at table start p = if leb start (place_in p) then set table (place_in p - start) (ballot_in p) else table

-- 255 everywhere in a part of this length, then the first m ballots
unfoldable pub laid : List Placed → (start size m : ℕ) → List ℕ
laid kept start size zero = replicate size silence
laid kept start size (suc m) = put_at (laid kept start size m) start (get_or kept m none)
