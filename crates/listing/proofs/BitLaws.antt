-- Laws of a sheet that is rehearsed one bit after another in one table and one log. Assumes nothing.
use Prim.Native.Nat.{ℕ, ◌+◌, ◌-◌, ◌≤◌, ◌<◌}
use Rattle.refusal.specs.declared.cause.Cause.{Cause}
use Rattle.std.specs.declared.result.Result.{Result}
use Rattle.refusal.specs.Cause.{no_cause}
use Rattle.std.specs.declared.result.Result.TheVariants.{Ok}
use mathlib.Core.Path.{◌≡◌, refl, sym, ap, ◌∙◌}
use mathlib.Core.List.{List}
use native.Mathlib.Omega.{arith}
use lib.ListN.{length}
use Rattle.line.specs.Line.{outcomes_length}
use Rattle.line.specs.Width.{bits}
use Rattle.line.proofs.WidthLaws.{bits_some, part_size}
use Rattle.refusal.proofs.VerdictLaws.{both_accepted}
use Rattle.number.specs.Numbers.{NumberRun, bit_run}
use Rattle.recipe.proofs.RunLaws.{none_in_turn, one_more_in_turn}
use Rattle.header.specs.declared.Header.{Header}
use Rattle.layout.specs.Layout.{header, table_wanted, tables_wanted}
use Rattle.layout.specs.Chain.{Fate}
use Rattle.judgement.specs.Judgement.{verdict_to_8, bit_to_8, chain_verdict, sheet_verdict, bit_verdict}
use Rattle.reader.specs.Reading.{table_of, bit_table, ReadsBit}
use Rattle.reader.specs.Loops.{SoundHeader}
use Rattle.reader.proofs.TableLaws.{table_long}
use Rattle.reader.proofs.PromiseLaws.{opening_sound, bit_length}
use Rattle.reader.proofs.Theorems.{one_fate, judged_either_way}
use Rattle.listing_lines.specs.Lines.{run, verdict}
use Rattle.listing_lines.proofs.VerdictLaws.{bit_accepted, bit_verdict_same}
use Rattle.listing.specs.Loops.{BitRehearsed, Begun, BitsRun}

-- ---- an accepted sheet

-- its number's run
abbrev number_run : (s : List ℕ) → Fate s → NumberRun
number_run s f = run (header s) (table_of s f)

module _ (s : List ℕ) (f : Fate s) (v : verdict s f ≡ no_cause) where
  judged : sheet_verdict s (tables_wanted s) f ≡ no_cause
  unfolding verdict
  judged = v

  sound : SoundHeader (header s)
  unfolding sheet_verdict
  sound = opening_sound s _ (both_accepted (verdict_to_8 s (tables_wanted s)) (chain_verdict s f) judged).0

  tables_long : length (table_of s f) ≡ tables_wanted s
  tables_long = table_long s _ f judged

  bit_long : (b : ℕ) → b < bits (header s).w → length (bit_table s f b) ≡ table_wanted s
  bit_long b h = part_size (table_wanted s) (table_of s f) b (bits (header s).w) h tables_long

  -- what one bit is read as, whatever shows the chain's fate
  bit_read : (b : ℕ) → b < bits (header s).w → (table₀ table₁ : List ℕ) (answer : Result Header Cause) → length table₀ ≡ table_wanted s
      → ReadsBit s b table₀ table₁ answer → table₁ ≡ bit_table s f b
  bit_read b h table₀ table₁ answer size r =
      let same = one_fate s r.fate f in
      let a : bit_verdict s b (length table₀) r.fate ≡ no_cause = rw size (judged_either_way s r.fate b h ∙ same.0 (tables_wanted s) ∙ judged) in
      r.table_is ∙ rw (a, same.1) refl

-- ---- the bits, one after another

module _ (s : List ℕ) (h : Header) (table bytes results : List ℕ) where
  -- the first is read
  pub bits_begin : Begun s h table bytes → length results ≡ outcomes_length h.line.n → BitsRun s h 0 table bytes results
  bits_begin B whole = record {
    fate = B.fate;
    accepted = B.accepted;
    header_is = B.header_is;
    table_is = B.table_is;
    in_turn = none_in_turn (number_run s B.fate) bytes results B.log_whole (rw B.header_is at whole);
  }

  -- its line has at most 32 stations
  pub few : Begun s h table bytes → h.line.n ≤ 32
  few B = rw B.header_is (sound s B.fate B.accepted).most

  module _ (b : ℕ) (P : BitsRun s h b table bytes results) (more : b < bits h.w) (table₁ bytes₁ results₁ : List ℕ)
      (there : table₁ ≡ bit_table s P.fate b) (r : BitRehearsed h b table₁ bytes bytes₁ results results₁) where
    pub bit_run_more : BitsRun s h (b + 1) table₁ bytes₁ results₁
    unfolding bit_run
    bit_run_more =
        let back : b + 1 - 1 ≡ b = omega arith in
        let its_own = rw (P.header_is, there) at r in
        record {
          fate = P.fate;
          accepted = P.accepted;
          header_is = P.header_is;
          table_is = rw back there;
          in_turn =
              one_more_in_turn (number_run s P.fate) (sound s P.fate P.accepted) (tables_long s P.fate P.accepted) b (rw P.header_is at more)
              bytes results bytes₁ results₁ its_own.answer P.in_turn its_own.rehearsed;
        }

  -- the table has one bit's length
  pub table_whole : (b : ℕ) → BitsRun s h b table bytes results → b ≤ bits h.w → length table ≡ table_wanted s
  table_whole b P most =
      let m : b ≤ bits (header s).w = rw P.header_is at most in
      ap length P.table_is ∙ bit_long s P.fate P.accepted (b - 1) (omega (arith, m, bits_some (header s).w))

  -- a higher one is read in the place of the one before
  pub next_read : (b : ℕ) (P : BitsRun s h b table bytes results) → b < bits h.w → (table₁ : List ℕ) (answer : Result Header Cause)
      → ReadsBit s b table table₁ answer → table₁ ≡ bit_table s P.fate b
  next_read b P more table₁ answer r =
      let m : b < bits (header s).w = rw P.header_is at more in
      bit_read s P.fate P.accepted b m table table₁ answer (table_whole b P (omega arith)) r

-- ---- the reader's answer of the first bit

module _ (s table₀ table₁ : List ℕ) {answer : Result Header Cause} (r : ReadsBit s 0 table₀ table₁ answer) (h : Header) (e : answer ≡ Ok h) where
  both : (bit_verdict s 0 (length table₀) r.fate ≡ no_cause) × (h ≡ header s)
  both = bit_accepted s 0 table₀ table₁ r h e

  -- the table has one bit's length
  pub first_long : length table₀ ≡ table_wanted s
  unfolding bit_verdict
  first_long = bit_length s 0 _ (both_accepted (bit_to_8 s 0 (length table₀)) (chain_verdict s r.fate) both.0).0

  pub begun : (bytes : List ℕ) → length bytes ≡ length table₀ → Begun s h table₁ bytes
  begun bytes q = record {
    fate = r.fate;
    accepted = sym (bit_verdict_same s r.fate (length table₀) (λ _. first_long)) ∙ both.0;
    header_is = both.1;
    table_is = r.table_is ∙ rw both.0 refl;
    log_whole = q ∙ first_long;
  }
