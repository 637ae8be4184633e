-- Laws of the verdict on a sheet: what the reader's answer tells of it, and that the length of the lent table matters to a sound header only. Assumes nothing.
use Prim.Native.Nat.{ℕ}
use Rattle.std.specs.declared.result.Result.{Result}
use Rattle.std.specs.declared.result.Result.TheVariants.{Ok, Err}
use mathlib.Core.Path.{◌≡◌, refl, sym, ◌∙◌}
use mathlib.Core.List.{List}
use native.Mathlib.Omega.{arith}
use lib.ListN.{length}
use Rattle.line.proofs.WidthLaws.{bits_some}
use Rattle.refusal.specs.declared.cause.Cause.{Cause}
use Rattle.refusal.specs.Cause.{Verdict, no_cause, answered}
use Rattle.header.specs.declared.Header.{Header}
use Rattle.layout.specs.Layout.{header, table_wanted, tables_wanted}
use Rattle.layout.specs.Chain.{Fate}
use Rattle.judgement.specs.Judgement.{verdict_to_6, verdict_to_8, bit_to_8, sheet_verdict, bit_verdict}
use Rattle.reader.specs.Reading.{Reads, ReadsBit}
use Rattle.reader.specs.Loops.{SoundHeader}
use Rattle.reader.proofs.PromiseLaws.{opened_sound}
use Rattle.reader.proofs.Theorems.{judged_either_way}
use Rattle.listing_lines.specs.Lines as lines

-- ---- the reader's answer

told_accepted : (v : Verdict) (h k : Header) → Ok h ≡ answered v k → (v ≡ no_cause) × (h ≡ k)
told_accepted (Ok _) h k e = (refl, cc)
told_accepted (Err c) h k e = let z : ◌≡◌ {A = ℕ} 0 1 = cc in absurd (omega arith)

told_refused : (v : Verdict) (c : Cause) (k : Header) → Err c ≡ answered v k → v ≡ Err c
told_refused (Ok _) c k e = let z : ◌≡◌ {A = ℕ} 0 1 = cc in absurd (omega arith)
told_refused (Err d) c k e = cc

module _ (s table₀ table₁ : List ℕ) {answer : Result Header Cause} (r : Reads s table₀ table₁ answer) where
  pub read_accepted : (h : Header) → answer ≡ Ok h → (sheet_verdict s (length table₀) r.fate ≡ no_cause) × (h ≡ header s)
  read_accepted h e = told_accepted (sheet_verdict s (length table₀) r.fate) h (header s) (sym e ∙ r.answer_is)

  pub read_refused : (c : Cause) → answer ≡ Err c → sheet_verdict s (length table₀) r.fate ≡ Err c
  read_refused c e = told_refused (sheet_verdict s (length table₀) r.fate) c (header s) (sym e ∙ r.answer_is)

-- and that of the reader of one bit
module _ (s : List ℕ) (b : ℕ) (table₀ table₁ : List ℕ) {answer : Result Header Cause} (r : ReadsBit s b table₀ table₁ answer) where
  pub bit_accepted : (h : Header) → answer ≡ Ok h → (bit_verdict s b (length table₀) r.fate ≡ no_cause) × (h ≡ header s)
  bit_accepted h e = told_accepted (bit_verdict s b (length table₀) r.fate) h (header s) (sym e ∙ r.answer_is)

  pub bit_refused : (c : Cause) → answer ≡ Err c → bit_verdict s b (length table₀) r.fate ≡ Err c
  bit_refused c e = told_refused (bit_verdict s b (length table₀) r.fate) c (header s) (sym e ∙ r.answer_is)

-- ---- the lent table's length

module _ (s : List ℕ) (fate : Fate s) where
  -- what they refuse is refused, whatever is lent
  all_refused : (c : Cause) → verdict_to_6 s ≡ Err c → (l : ℕ) → sheet_verdict s l fate ≡ Err c
  unfolding sheet_verdict verdict_to_8
  all_refused c e l = rw e

  one_refused : (c : Cause) → verdict_to_6 s ≡ Err c → (b l : ℕ) → bit_verdict s b l fate ≡ Err c
  unfolding bit_verdict bit_to_8
  one_refused c e b l = rw e

  -- so where what is lent to a sound header has its length, the verdict is the sheet's own
  pub verdict_same : (lent : ℕ) → (SoundHeader (header s) → lent ≡ tables_wanted s) → sheet_verdict s lent fate ≡ lines.verdict s fate
  unfolding lines.verdict
  verdict_same lent whole = go (verdict_to_6 s) refl
    where
      go : (v : Verdict) → verdict_to_6 s ≡ v → sheet_verdict s lent fate ≡ sheet_verdict s (tables_wanted s) fate
      go (Ok _) e = rw (whole (opened_sound s e))
      go (Err c) e = rw (all_refused c e lent, all_refused c e (tables_wanted s))

  -- and so where the first bit is read
  pub bit_verdict_same : (lent : ℕ) → (SoundHeader (header s) → lent ≡ table_wanted s) → bit_verdict s 0 lent fate ≡ lines.verdict s fate
  unfolding lines.verdict
  bit_verdict_same lent whole = go (verdict_to_6 s) refl
    where
      go : (v : Verdict) → verdict_to_6 s ≡ v → bit_verdict s 0 lent fate ≡ sheet_verdict s (tables_wanted s) fate
      go (Ok _) e = rw (whole (opened_sound s e)) (judged_either_way s fate 0 (bits_some (header s).w))
      go (Err c) e = rw (one_refused c e 0 lent, all_refused c e (tables_wanted s))
