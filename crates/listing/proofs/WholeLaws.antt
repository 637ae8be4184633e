-- Laws of a listing with as much table and log as any line wants: the verdict is the one that Lines.antt defines; and with as much text as any
-- listing wants, nothing is cut. Assumes nothing.
use Prim.Native.Nat.{ℕ, ◌≤◌}
use mathlib.Core.Path.{◌≡◌, ◌∙◌}
use mathlib.Core.List.{List}
use native.Mathlib.Nat.{min-eq_left, le_trans}
use lib.ListN.{length}
use Rattle.line.specs.Line.{largest_table}
use Rattle.line.proofs.LineLaws.{table_bound}
use Rattle.layout.specs.Layout.{header, table_wanted}
use Rattle.layout.specs.Chain.{Fate}
use Rattle.reader.specs.Loops.{SoundHeader}
use Rattle.listing_lines.specs.Lines.{lines}
use Rattle.listing_lines.specs.Text.{text}
use Rattle.listing_lines.proofs.VerdictLaws.{bit_verdict_same}
use Rattle.listing.specs.Promise.{front, listing}
use Rattle.listing.specs.Theorems.{ListingFits}
use Rattle.text.proofs.LaidLaws.{laid_whole, laid_length}
use Rattle.listing.proofs.LengthLaws.{listing_short}

module _ (s : List ℕ) (fate : Fate s) where
  -- a sound header's table fits the largest
  front_wanted : SoundHeader (header s) → (table log : ℕ) → largest_table ≤ table → largest_table ≤ log → front s table log ≡ table_wanted s
  unfolding front
  front_wanted sound table log ht hl =
      let fits = table_bound (header s).line.n (header s).line.t (header s).line.upper sound.most sound.fits in
      rw (min-eq_left (le_trans fits ht)) (min-eq_left (le_trans fits hl))

  module _ (table log : ℕ) (ht : largest_table ≤ table) (hl : largest_table ≤ log) where
    pub listing_whole : listing s (front s table log) fate ≡ text (lines s fate)
    unfolding listing lines
    listing_whole = rw (bit_verdict_same s fate (front s table log) (λ sound. front_wanted sound table log ht hl))

pub listing_fits : ListingFits
listing_fits s table₀ table₁ log₀ log₁ text₀ text₁ answer r ht hl hx =
    let bytes = listing s (front s (length table₀) (length log₀)) r.fate in
    let room : length bytes ≤ length text₀ = le_trans (listing_short s (front s (length table₀) (length log₀)) r.fate) hx in
    record {
      fate = r.fate;
      inside = rw (r.answer_is, r.text_is, laid_length) room;
      whole = rw (r.answer_is, r.text_is) (laid_whole bytes text₀ room ∙ listing_whole s r.fate _ _ ht hl);
    }
