-- Laws of what is printed, by the reader's answer. Assumes nothing.
use Prim.Native.Nat.{ℕ, ◌≤◌, min}
use Rattle.std.specs.declared.result.Result.{Result}
use Rattle.refusal.specs.Cause.{no_cause}
use Rattle.std.specs.declared.result.Result.TheVariants.{Ok, Err}
use mathlib.Core.Path.{◌≡◌, sym, ◌∙◌}
use mathlib.Core.List.{List}
use native.Mathlib.Nat.{min-eq_left}
use native.Mathlib.Omega.{arith}
use lib.ListN.{length}
use Rattle.line.specs.Line.{largest_table, outcomes_length}
use Rattle.line.proofs.LineLaws.{table_bound}
use Rattle.refusal.specs.declared.cause.Cause.{Cause}
use Rattle.refusal.proofs.VerdictLaws.{both_accepted}
use Rattle.header.specs.declared.Header.{Header}
use Rattle.layout.specs.Layout.{header, table_wanted}
use Rattle.judgement.specs.Judgement.{bit_to_8, chain_verdict, bit_verdict}
use Rattle.reader.specs.Reading.{ReadsBit}
use Rattle.reader.specs.Loops.{SoundHeader}
use Rattle.reader.proofs.PromiseLaws.{bit_sound, bit_length}
use Rattle.text.specs.Laid.{Puts}
use Rattle.listing_lines.specs.Lines as lines
use Rattle.listing_lines.proofs.OutputLaws.{put_output}
use Rattle.listing_lines.proofs.VerdictLaws.{bit_accepted, bit_refused, bit_verdict_same}
use Rattle.seeded.specs.Listings.{last_seed, listings, Printed}
use Rattle.seeded.proofs.ListingLaws.{listings_short}
use Rattle.seeds.specs.Loops.{longest_output, Ready, Begun}

-- an accepted sheet's header, with outcomes of its length
pub ready_header : (s : List ℕ) (h : Header) (table bytes results : List ℕ) → Begun s h table bytes → length results ≡ outcomes_length h.line.n → Ready h table bytes results
ready_header s h table bytes results B c =
    record { sound = rw B.header_is B.sound; table_whole = rw B.header_is B.table_whole; log_whole = rw B.header_is B.log_whole; outcomes_whole = c }

-- its line has at most 32 stations
pub few : (s : List ℕ) (h : Header) (table bytes : List ℕ) → Begun s h table bytes → h.line.n ≤ 32
few s h table bytes B = rw B.header_is B.sound.most

module _ (s table₀ table₁ : List ℕ) {answer : Result Header Cause} (r : ReadsBit s 0 table₀ table₁ answer) (lent : length table₀ ≡ min (table_wanted s) largest_table) where
  -- the verdict is the sheet's own
  own : bit_verdict s 0 (length table₀) r.fate ≡ lines.verdict s r.fate
  own = bit_verdict_same s r.fate (length table₀)
      (λ sound. lent ∙ min-eq_left (table_bound (header s).line.n (header s).line.t (header s).line.upper sound.most sound.fits))

  module _ (h : Header) (e : answer ≡ Ok h) where
    both : (bit_verdict s 0 (length table₀) r.fate ≡ no_cause) × (h ≡ header s)
    both = bit_accepted s 0 table₀ table₁ r h e

    opened : bit_to_8 s 0 (length table₀) ≡ no_cause
    unfolding bit_verdict
    opened = (both_accepted (bit_to_8 s 0 (length table₀)) (chain_verdict s r.fate) both.0).0

    sound : SoundHeader (header s)
    sound = bit_sound s 0 (length table₀) opened

    pub begun : (log : List ℕ) → length log ≡ length table₀ → length table₁ ≡ length table₀ → Begun s h table₁ log
    begun log a b =
        let size = bit_length s 0 (length table₀) opened in
        record { header_is = both.1; sound = sound; table_whole = b ∙ size; log_whole = a ∙ size }

    pub accepted_output : (out₀ out₁ : List ℕ) (n : ℕ) → length out₀ ≡ longest_output → Puts out₀ out₁ 0 (listings h last_seed) n → Printed s out₁ n
    accepted_output out₀ out₁ n z p =
        put_output s (λ fate. listings (header s) last_seed) r.fate out₀ out₁ n (sym own ∙ both.0)
        (omega (arith, z, listings_short (header s) sound last_seed))
        (rw both.1 at p)

  pub refused : (c : Cause) → answer ≡ Err c → lines.verdict s r.fate ≡ Err c
  refused c e = sym own ∙ bit_refused s 0 table₀ table₁ r c e
