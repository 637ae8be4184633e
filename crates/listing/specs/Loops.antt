-- What the private functions of the listing do: for their contracts, and no part of what the public call promises.
use Rattle.std.specs.Prelude.{ℕ, ◌-◌, ◌≡◌, List, length}
use Rattle.line.specs.Width.{bit_of}
use Rattle.refusal.specs.Cause.{written, no_cause}
use Rattle.refusal.specs.Cause.{Verdict}
use Rattle.broadcast.specs.Bytes.{log}
use Rattle.number.specs.Numbers.{bit_run}
use Rattle.rehearsal.specs.Promise.{run_of}
use Rattle.recipe.specs.Promise.{RehearsedBit}
use Rattle.recipe.specs.Loops.{InTurn}
use Rattle.header.specs.declared.Header.{Header}
use Rattle.layout.specs.Layout.{header, table_wanted}
use Rattle.layout.specs.Chain.{Fate}
use Rattle.reader.specs.Reading.{table_of, bit_table}
use Rattle.text.specs.Laid.{Puts}
use Rattle.listing_lines.specs.Lines.{run, verdict}
use Rattle.listing.specs.Promise.{last_bit, lent_verdict, listing}

-- bit b of a header's number, whatever the call answered
pub record BitRehearsed (h : Header) (b : ℕ) (table log₀ log₁ outcomes₀ outcomes₁ : List ℕ) : Type 0 where
  pub answer : Verdict
  pub rehearsed : RehearsedBit b (run_of h.line.n h.line.t h.line.upper h.sender (bit_of h.value b) h.marks table) log₀ log₁ outcomes₀ outcomes₁ answer

-- an accepted sheet with its header, its first bit's table, and a log as long
pub record Begun (s : List ℕ) (h : Header) (table bytes : List ℕ) : Type 0 where
  pub fate : Fate s
  pub accepted : verdict s fate ≡ no_cause
  pub header_is : h ≡ header s
  pub table_is : table ≡ bit_table s fate 0
  pub log_whole : length bytes ≡ table_wanted s

-- m bits of an accepted sheet are rehearsed, one after another: table and log are the last one's, and before the first one the table is its
pub record BitsRun (s : List ℕ) (h : Header) (m : ℕ) (table bytes results : List ℕ) : Type 0 where
  pub fate : Fate s
  pub accepted : verdict s fate ≡ no_cause
  pub header_is : h ≡ header s
  pub table_is : table ≡ bit_table s fate (m - 1)
  pub in_turn : InTurn (run (header s) (table_of s fate)) m bytes results

-- what is listed of an accepted sheet, and its last bit's table and log
pub record ListsRun (s table₁ log₁ text₀ text₁ : List ℕ) (answer : ℕ) : Type 0 where
  pub fate : Fate s
  pub accepted : verdict s fate ≡ no_cause
  pub puts : Puts text₀ text₁ 0 (listing s (table_wanted s) fate) answer
  pub table_is : table₁ ≡ bit_table s fate (last_bit s)
  pub log_is : log₁ ≡ log (bit_run (run (header s) (table_of s fate)) (last_bit s))

-- the promise with a table and a log of the same length that are lent whole
pub record ListsWhole (s table₀ table₁ log₀ log₁ text₀ text₁ : List ℕ) (answer : ℕ) : Type 0 where
  pub fate : Fate s
  pub puts : Puts text₀ text₁ 0 (listing s (length table₀) fate) answer
  pub table_is : table₁ ≡ written (lent_verdict s (length table₀) fate) (bit_table s fate (last_bit s)) table₀
  pub log_is : log₁ ≡ written (lent_verdict s (length table₀) fate) (log (bit_run (run (header s) (table_of s fate)) (last_bit s))) log₀
