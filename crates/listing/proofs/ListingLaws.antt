-- Laws of the listing: its promise from what the reader and the rehearsal promise, and from buffers lent in part. Assumes nothing.
use Prim.Native.Nat.{ℕ, ◌≤◌, min}
use Rattle.std.specs.declared.result.Result.{Result}
use Rattle.std.specs.declared.result.Result.TheVariants.{Ok, Err}
use mathlib.Core.Path.{◌≡◌, refl, ◌∙◌}
use mathlib.Core.List.{List, [], ◌∷◌, ◌++◌}
use native.Mathlib.Nat.{zero-add}
use native.Mathlib.Omega.{arith}
use lib.ListN.{length, take, drop, take-append-drop}
use lib.Seq.{length-take-le}
use Rattle.line.specs.Width.{bits}
use Rattle.line.proofs.WidthLaws.{bits_some}
use Rattle.refusal.specs.Cause.{number, written, no_cause}
use Rattle.refusal.specs.declared.cause.Cause.{Cause}
use Rattle.refusal.specs.Cause.{Verdict}
use Rattle.broadcast.specs.Bytes.{log}
use Rattle.number.specs.Numbers.{bit_run, number_outcomes}
use Rattle.header.specs.declared.Header.{Header}
use Rattle.layout.specs.Layout.{header, table_wanted}
use Rattle.reader.specs.Reading.{table_of, bit_table, ReadsBit}
use Rattle.text.specs.Laid.{laid, Puts}
use Rattle.text.proofs.LaidLaws.{laid_front, after_within}
use Rattle.listing_lines.specs.Lines.{refused, num, lines_by, run}
use Rattle.listing_lines.specs.Text.{text}
use Rattle.listing_lines.proofs.VerdictLaws.{bit_refused, bit_verdict_same}
use Rattle.listing.specs.Promise.{last_bit, lent_verdict, front, listing, Lists}
use Rattle.listing.specs.Loops.{BitsRun, ListsRun, ListsWhole}
use Rattle.listing.proofs.LengthLaws.{listing_short}
use Rattle.listing.proofs.BitLaws.{first_long}

-- ---- an accepted sheet, listed

module _ (s : List ℕ) (h : Header) (table bytes results : List ℕ) (P : BitsRun s h (bits h.w) table bytes results) where
  its_outcomes : results ≡ number_outcomes (run (header s) (table_of s P.fate))
  unfolding number_outcomes
  its_outcomes = P.in_turn.outcomes_are (bits_some h.w) ∙ rw P.header_is refl

  pub lists_run : (text₀ text₁ : List ℕ) (answer : ℕ) → Puts text₀ text₁ 0 (text (lines_by no_cause h results)) answer
      → ListsRun s table bytes text₀ text₁ answer
  unfolding listing
  lists_run text₀ text₁ answer p =
      let v = bit_verdict_same s P.fate (table_wanted s) (λ _. refl) ∙ P.accepted in
      record {
        fate = P.fate;
        accepted = P.accepted;
        puts = rw (v, ← its_outcomes, ← P.header_is) p;
        table_is = P.table_is ∙ rw P.header_is refl;
        log_is = P.in_turn.log_is (bits_some h.w) ∙ rw P.header_is refl;
      }

-- ---- a sheet, listed

module _ (s table₀ table₁ : List ℕ) {answer : Result Header Cause} (r : ReadsBit s 0 table₀ table₁ answer) where
  pub whole_accepted : (h : Header) → answer ≡ Ok h → (table₂ log₀ log₁ text₀ text₁ : List ℕ) (n : ℕ) → ListsRun s table₂ log₁ text₀ text₁ n
      → ListsWhole s table₀ table₂ log₀ log₁ text₀ text₁ n
  whole_accepted h e table₂ log₀ log₁ text₀ text₁ n runs =
      let size = first_long s table₀ table₁ r h e in
      let v = bit_verdict_same s runs.fate (length table₀) (λ _. size) ∙ runs.accepted in
      record {
        fate = runs.fate;
        puts = rw size runs.puts;
        table_is = rw v runs.table_is;
        log_is = rw v runs.log_is;
      }

  pub whole_refused : (c : Cause) (k : ℕ) → answer ≡ Err c → k ≡ number c → (log₀ text₀ text₁ : List ℕ) (n : ℕ)
      → Puts text₀ text₁ 0 (text ((refused ∷ num k ∷ []) ∷ [])) n → ListsWhole s table₀ table₁ log₀ log₀ text₀ text₁ n
  unfolding listing
  whole_refused c k e q log₀ text₀ text₁ n p =
      let v = bit_refused s 0 table₀ table₁ r c e in
      record { fate = r.fate; puts = rw (v, ← q) p; table_is = r.table_is ∙ rw v refl; log_is = rw v refl }

-- ---- buffers lent in part

-- what is written in a front, as said of the whole
whole_of : (v : Verdict) (new old part : List ℕ) (k : ℕ) → k ≤ length old → length part ≡ k → part ≡ written v new (take k old)
    → part ++ drop k old ≡ written v (laid old 0 new) old
whole_of (Ok _) new old part k h q e = laid_front part old k q h ∙ rw e
whole_of (Err c) new old part k h q e = rw e (take-append-drop k old)

module _ (s table₀ table log₀ bytes text₀ text₁ : List ℕ) (answer a b : ℕ) (ha : b ≤ length table₀) (hb : b ≤ length log₀)
    (ea : a ≡ min (table_wanted s) (length table₀)) (eb : b ≡ min a (length log₀))
    (ka : length table ≡ length (take b table₀)) (kb : length bytes ≡ length (take b log₀)) where
  front_length : length (take b table₀) ≡ front s (length table₀) (length log₀)
  unfolding front
  front_length = length-take-le b table₀ ha ∙ eb ∙ rw ea

  pub lists_parts : ListsWhole s (take b table₀) table (take b log₀) bytes text₀ text₁ answer
      → Lists s table₀ (table ++ drop b table₀) log₀ (bytes ++ drop b log₀) text₀ text₁ answer
  lists_parts w =
      let f = w.fate in
      let v = lent_verdict s (length (take b table₀)) f in
      record {
        fate = f;
        answer_is = rw (← front_length) (w.puts.answer_is ∙ after_within 0 _ (omega (arith, listing_short s (length (take b table₀)) f)) ∙ zero-add _);
        text_is = rw (← front_length) w.puts.text_is;
        table_is = rw (← front_length) (whole_of v (bit_table s f (last_bit s)) table₀ table b ha (ka ∙ length-take-le b table₀ ha) w.table_is);
        log_is =
            rw (← front_length)
            (whole_of v (log (bit_run (run (header s) (table_of s f)) (last_bit s))) log₀ bytes b hb (kb ∙ length-take-le b log₀ hb) w.log_is);
      }
