-- Laws of what the reader promises: what causes 1, 15 and 2 to 8 let through, and the promise by what the verdict is. Assumes nothing.
use Prim.Native.Nat.{ℕ, ◌+◌, ◌*◌, ◌≤◌, ◌<◌}
use Rattle.std.specs.declared.result.Result.{Result}
use Rattle.std.specs.declared.result.Result.TheVariants.{Ok, Err}
use mathlib.Core.Path.{◌≡◌, refl, ap, ◌∙◌}
use mathlib.Core.List.{List}
use native.Mathlib.Nat.{suc-mul, mul-le-mul_right, min-eq_left}
use native.Mathlib.Omega.{arith}
use lib.ListN.{length, take, drop, length-take}
use lib.Seq.{take_all, get_or-take}
use borrow.Author.Tests.{leb-false, lt-leb}
use mir.Syntax.{w64}
use mir.Val.{Fits as FitsWord}
use Rattle.line.specs.Width.{bits, part_of}
use Rattle.line.proofs.LineLaws.{table_bound, product_fits}
use Rattle.line.proofs.WidthLaws.{bits_most}
use Rattle.refusal.specs.Cause.{◌or_else◌, written, no_cause, answered}
use Rattle.header.specs.Header.{exact_length}
use Rattle.refusal.specs.declared.cause.Cause.{Cause}
use Rattle.refusal.specs.Cause.{Verdict}
use Rattle.refusal.proofs.VerdictLaws.{code_by, values_by, refused_false, accepted_false, both_accepted}
use Rattle.header.proofs.HeaderLaws.{number_sound, length_exact, length_accepts}
use Rattle.header.specs.declared.Header.{Header}
use Rattle.layout.specs.Layout.{header, table_wanted, tables_wanted, most_records, records}
use Rattle.layout.specs.Chain.{Fate, leaves, again, ends}
use Rattle.judgement.specs.Judgement.{sheet_form, verdict_to_6, verdict_to_8, bit_there, bit_to_8, chain_verdict, sheet_verdict, bit_verdict}
use Rattle.reader.specs.Reading.{table_of, bit_table, numbers_of, Reads, ReadsBit}
use Rattle.reader.specs.Loops.{SoundHeader, none, Opened, ReadsPart, Kept, Whole, laid}
use Rattle.reader.specs.declared.fill.Placed.{Placed}
use Rattle.judgement.proofs.FormLaws.{form_sound}
use Rattle.layout.proofs.ChainLaws.{fate}
use Rattle.reader.proofs.TableLaws.{filled_length}
use Rattle.reader.proofs.WalkLaws.{laid_filled}

module _ (s : List ℕ) where
  -- ---- what causes 1, 15 and 2 to 6 let through

  module _ (e : verdict_to_6 s ≡ no_cause) where
    pub opened_most : records s ≤ most_records
    unfolding verdict_to_6
    opened_most = (form_sound s (both_accepted (sheet_form s) _ e).0).most

    pub opened_sound : SoundHeader (header s)
    unfolding verdict_to_6
    opened_sound = number_sound _ _ _ _ _ _ _ (both_accepted (sheet_form s) _ e).1

  -- ---- and 8, with a buffer for all bits

  module _ (l : ℕ) (e : verdict_to_8 s l ≡ no_cause) where
    opening_both : (verdict_to_6 s ≡ no_cause) × (exact_length (tables_wanted s) l ≡ no_cause)
    unfolding verdict_to_8
    opening_both = both_accepted (verdict_to_6 s) (exact_length (tables_wanted s) l) e

    pub opening_most : records s ≤ most_records
    opening_most = opened_most opening_both.0

    pub opening_sound : SoundHeader (header s)
    opening_sound = opened_sound opening_both.0

    pub opening_length : l ≡ tables_wanted s
    opening_length = length_exact _ _ opening_both.1

    -- the whole of it is read
    pub opened_all : Opened s 0 l
    opened_all = record { judged = opening_both.0; within = omega (arith, opening_length) }

  -- ---- and with one for bit b

  module _ (b l : ℕ) (e : bit_to_8 s b l ≡ no_cause) where
    bit_opening : (verdict_to_6 s ≡ no_cause) × (exact_length (table_wanted s) l or_else bit_there s b ≡ no_cause)
    unfolding bit_to_8
    bit_opening = both_accepted (verdict_to_6 s) (exact_length (table_wanted s) l or_else bit_there s b) e

    pub bit_sound : SoundHeader (header s)
    bit_sound = opened_sound bit_opening.0

    pub bit_length : l ≡ table_wanted s
    bit_length = length_exact _ _ (both_accepted _ (bit_there s b) bit_opening.1).0

    pub bit_below : b < bits (header s).w
    unfolding bit_there
    bit_below = leb-false (bits (header s).w) b (accepted_false _ _ (both_accepted (exact_length (table_wanted s) l) _ bit_opening.1).1)

    -- its part is read
    pub opened_bit : Opened s (b * l) l
    opened_bit = record {
      judged = bit_opening.0;
      within = rw bit_length (omega (arith, mul-le-mul_right (table_wanted s) bit_below, suc-mul b (table_wanted s)));
    }

    pub bit_fits : FitsWord w64 (b * l)
    bit_fits =
        let sound = bit_sound in
        let few = bits_most (header s).w sound.narrow in
        let short : l ≤ 36864 = rw bit_length (table_bound (header s).line.n (header s).line.t (header s).line.upper sound.most sound.fits) in
        product_fits {p = 8} {q = 36864} (omega (arith, bit_below)) short tt

  -- ---- the promise

  -- by the verdict of a fate
  promised : (table₀ table₁ : List ℕ) (answer : Result Header Cause) (f : Fate s) (v : Verdict) → sheet_verdict s (length table₀) f ≡ v
      → answer ≡ answered v (header s) → table₁ ≡ written v (table_of s f) table₀ → Reads s table₀ table₁ answer
  promised table₀ table₁ answer f v e a t = record {
    fate = f;
    answer_is = rw e a;
    number_is = rw e (code_by v _ a);
    values_are = rw e (values_by numbers_of v _ a);
    table_is = rw e t;
  }

  promised_bit : (b : ℕ) (table₀ table₁ : List ℕ) (answer : Result Header Cause) (f : Fate s) (v : Verdict) → bit_verdict s b (length table₀) f ≡ v
      → answer ≡ answered v (header s) → table₁ ≡ written v (bit_table s f b) table₀ → ReadsBit s b table₀ table₁ answer
  promised_bit b table₀ table₁ answer f v e a t = record {
    fate = f;
    answer_is = rw e a;
    number_is = rw e (code_by v _ a);
    values_are = rw e (values_by numbers_of v _ a);
    table_is = rw e t;
  }

  -- refused by 1 to 8, whatever becomes of the chain
  pub refused_opening : (table : List ℕ) (c : Cause) → verdict_to_8 s (length table) ≡ Err c → Reads s table table (Err c)
  unfolding sheet_verdict
  refused_opening table c e = promised table table (Err c) (fate s) (Err c) (rw e) refl refl

  pub refused_bit : (b : ℕ) (table : List ℕ) (c : Cause) → bit_to_8 s b (length table) ≡ Err c
      → ReadsBit s b table table (Err c)
  unfolding bit_verdict
  refused_bit b table c e = promised_bit b table table (Err c) (fate s) (Err c) (rw e) refl refl

  -- ---- of a part of the tables

  -- refused by the chain
  pub refused_later : (start : ℕ) (table : List ℕ) (f : Fate s) (c : Cause) → chain_verdict s f ≡ Err c
      → ReadsPart s start table table (Err c)
  refused_later start table f c e = record { fate = f; answer_is = rw e; table_is = rw e }

  -- read by a walk that kept all, and filled with it
  pub whole_read : (start : ℕ) (table table₁ : List ℕ) (kept : List Placed) (m : ℕ) (h : Header) → start + length table ≤ tables_wanted s → Whole s m kept
      → h ≡ header s → table₁ ≡ laid (take m kept) start (length table) (length (take m kept)) → ReadsPart s start table table₁ (Ok h)
  whole_read start table table₁ kept m h o w q e =
      let k : length (take m kept) ≡ m = simp length-take (min-eq_left (omega (arith, w.kept_length, w.most))) in
      let all : Kept s m (take m kept) = λ a l. rw (get_or-take m kept a none l) (w.all_kept a l) in
      record {
        fate = ends m w.chain;
        answer_is = rw (w.judged, q);
        table_is = rw w.judged (rw k at e ∙ laid_filled s (take m kept) start (length table) m o all);
      }

  -- the part that is all of them
  all_written : (size : ℕ) (table : List ℕ) (f : Fate s) → size ≡ tables_wanted s
      → written (chain_verdict s f) (take size (drop 0 (table_of s f))) table ≡ written (chain_verdict s f) (table_of s f) table
  all_written size table (leaves l) e = refl
  all_written size table (again a) e = refl
  all_written size table (ends m d) e =
      ap (λ (x : List ℕ). written (chain_verdict s (ends m d)) x table) (take_all size (table_of s (ends m d)) (omega (arith, e, filled_length s m)))

  pub all_read : (table table₁ : List ℕ) (answer : Result Header Cause) → verdict_to_8 s (length table) ≡ no_cause → ReadsPart s 0 table table₁ answer
      → Reads s table table₁ answer
  unfolding sheet_verdict
  all_read table table₁ answer o p =
      promised table table₁ answer p.fate (chain_verdict s p.fate) (rw o) p.answer_is
      (p.table_is ∙ all_written (length table) table p.fate (opening_length (length table) o))

  -- and the part that is bit b's
  pub bit_read : (b : ℕ) (table table₁ : List ℕ) (answer : Result Header Cause) → bit_to_8 s b (length table) ≡ no_cause
      → ReadsPart s (b * length table) table table₁ answer → ReadsBit s b table table₁ answer
  unfolding bit_verdict part_of
  bit_read b table table₁ answer o p =
      promised_bit b table table₁ answer p.fate (chain_verdict s p.fate) (rw o) p.answer_is
      (rw (← bit_length b (length table) o) p.table_is)

  -- ---- either way

  -- the verdict is the same
  pub either_way : (f : Fate s) (b : ℕ) → b < bits (header s).w → bit_verdict s b (table_wanted s) f ≡ sheet_verdict s (tables_wanted s) f
  unfolding bit_verdict sheet_verdict bit_to_8 verdict_to_8 bit_there
  either_way f b h =
      rw (
        length_accepts (table_wanted s) (table_wanted s) refl,
        length_accepts (tables_wanted s) (tables_wanted s) refl,
        refused_false _ (lt-leb (bits (header s).w) b h),
      )
