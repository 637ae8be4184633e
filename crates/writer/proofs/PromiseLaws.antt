-- Laws of what the calls promise: what no cause refuses, and the promises by what the verdict is. Assumes nothing.
use Prim.Native.Nat.{ℕ, ◌+◌, ◌-◌, ◌*◌, ◌/◌, ◌≤◌, ◌<◌}
use Rattle.std.specs.declared.result.Result.{Result}
use Rattle.std.specs.declared.result.Result.TheVariants.{Ok, Err}
use mathlib.Core.Path.{◌≡◌, refl, sym, ap, ◌∙◌}
use mathlib.Core.Logic.{◌≢◌}
use mathlib.Core.List.{List, [], ◌∷◌, ◌++◌, append-nil}
use native.Mathlib.Nat.{le_refl}
use native.Mathlib.Omega.{arith}
use lib.Dec.{eqb}
use lib.ListN.{length, length-append}
use lib.Seq.{drop-length}
use borrow.Author.Tests.{eqb-true, ne_eqb, not-false, lt-ltb, le-ltb, ltb-false}
use Rattle.line.specs.Line.{rounds}
use Rattle.line.specs.Width.{tables_length}
use Rattle.line.proofs.LineLaws.{rounds_bound}
use Rattle.refusal.specs.Cause.{code, written, given, no_cause, answered, single, values}
use Rattle.refusal.specs.declared.cause.Cause.{Cause}
use Rattle.refusal.specs.declared.cause.Cause.TheVariants.{Length, TooManyRecords}
use Rattle.refusal.specs.Cause.{Verdict}
use Rattle.refusal.proofs.VerdictLaws.{code_by, values_by, both_accepted, accepted_false, refused_true, refused_false}
use Rattle.header.specs.Header.{exact_length}
use Rattle.header.proofs.HeaderLaws.{length_accepts}
use Rattle.header.specs.declared.Header.{Header}
use Rattle.layout.specs.Layout.{header, most_records}
use Rattle.judgement.specs.Judgement.{header_length, verdict_to_8}
use Rattle.reader.specs.Loops.{SoundHeader}
use Rattle.reader.proofs.PromiseLaws.{opening_sound, opening_length}
use Rattle.text.specs.Laid.{laid}
use Rattle.text.proofs.LaidLaws.{laid_append, laid_front}
use Rattle.selection.specs.Places.{to_write, how_many}
use Rattle.selection.specs.Counted.{counted}
use Rattle.selection.proofs.CountingLaws.{counted_all}
use Rattle.record.specs.Bytes.{header_bytes}
use Rattle.record.specs.Put.{header_in}
use Rattle.record.proofs.PutLaws.{header_there}
use Rattle.writer.specs.Sheet.{records_bytes, sheet, sheet_length}
use Rattle.writer.specs.Judgement.{header_and_table, too_many, before_buffer, write_verdict}
use Rattle.writer.specs.Writing.{Needs, Writes}
use Rattle.writer.specs.Loops.{Unrefused, Goes_on}
use Rattle.writer.proofs.RecordLaws.{records_length, records_none}
use Rattle.line.proofs.CountLaws.{count_zero}

-- ---- the sheet's parts

pub header_twelve : (h : List ℕ) (k : ℕ) → length (header_bytes h k) ≡ 12
unfolding header_bytes
header_twelve h k = refl

parts_whole : (h table : List ℕ) (k : ℕ) → k ≡ how_many (header h) table → header_bytes h k ++ records_bytes (header h) table k k ≡ sheet h table
unfolding sheet
parts_whole h table k is = rw is

-- a length that is not the wanted one is refused
length_refused : (wanted found : ℕ) → found ≢ wanted → exact_length wanted found ≡ Err Length
unfolding exact_length
length_refused wanted found e = refused_true Length (rw (ne_eqb found wanted e))

-- ---- what causes 1, 15 and 2 to 8 let through

module _ (h : List ℕ) (l : ℕ) (e : header_and_table h l ≡ no_cause) where
  pub taken_both : (header_length h ≡ no_cause) × (verdict_to_8 h l ≡ no_cause)
  unfolding header_and_table
  taken_both = both_accepted _ _ e

  pub taken_twelve : length h ≡ 12
  unfolding header_length
  taken_twelve = eqb-true (length h) 12 (not-false (eqb (length h) 12) (accepted_false _ _ taken_both.0))

  pub taken_sound : SoundHeader (header h)
  taken_sound = opening_sound h l taken_both.1

  pub taken_length : l ≡ tables_length (header h).line.n (header h).line.t (header h).w
  taken_length = opening_length h l taken_both.1

  pub taken_short : rounds (header h).line.t ≤ 36
  taken_short = rounds_bound _ _ _ taken_sound.most taken_sound.fits

module _ (h table : List ℕ) where
  -- what is counted is what is to be written
  pub taken_counted : header_and_table h (length table) ≡ no_cause → counted (header h) table ≡ how_many (header h) table
  taken_counted e = counted_all (header h) table (taken_sound h (length table) e).most (taken_length h (length table) e)

  -- what is not refused before the buffer is looked at
  pub before_both : before_buffer h table ≡ no_cause → (header_and_table h (length table) ≡ no_cause) × (too_many h table ≡ no_cause)
  unfolding before_buffer
  before_both e = both_accepted _ _ e

  pub before_few : before_buffer h table ≡ no_cause → how_many (header h) table ≤ 4096
  unfolding too_many
  before_few e = ltb-false most_records (how_many (header h) table) (accepted_false _ _ (before_both e).1)

  -- ---- how many bytes are needed

  needs_by : (v : Verdict) (answer : Result ℕ Cause) → before_buffer h table ≡ v → answer ≡ answered v (sheet_length h table) → Needs h table answer
  needs_by v answer e a =
      let by = a ∙ ap (λ w. answered w (sheet_length h table)) (sym e) in
      record { answer_is = by; number_is = code_by _ _ by; values_are = values_by single _ _ by }

  pub needs_refused : (c : Cause) → header_and_table h (length table) ≡ Err c → Needs h table (Err c)
  unfolding before_buffer
  needs_refused c e = needs_by (Err c) (Err c) (rw e) refl

  module _ (k : ℕ) (is : k ≡ how_many (header h) table) (e : header_and_table h (length table) ≡ no_cause) where
    pub needs_fewer : 4096 < k → Needs h table (Err TooManyRecords)
    unfolding before_buffer too_many
    needs_fewer l = needs_by (Err TooManyRecords) _ (rw (e, ← is, refused_true TooManyRecords (lt-ltb most_records k l))) refl

    pub needs_bytes : k ≤ 4096 → Needs h table (Ok (12 + 8 * k))
    unfolding before_buffer too_many sheet_length
    needs_bytes l = needs_by no_cause _ (rw (e, ← is, refused_false TooManyRecords (le-ltb most_records k l))) (rw is)

  -- ---- what the answer tells

  abbrev verdict_told : Result ℕ Cause → Verdict
  verdict_told (Ok l) = no_cause
  verdict_told (Err c) = Err c

  abbrev bytes_told : Result ℕ Cause → ℕ
  bytes_told (Ok l) = l
  bytes_told (Err c) = 0

  told_back : (v : Verdict) (l : ℕ) → verdict_told (answered v l) ≡ v
  told_back (Ok _) l = refl
  told_back (Err c) l = refl

  told_verdict : (answer : Result ℕ Cause) → Needs h table answer → before_buffer h table ≡ verdict_told answer
  told_verdict answer n = sym (ap verdict_told n.answer_is ∙ told_back (before_buffer h table) (sheet_length h table))

  module _ (l : ℕ) (n : Needs h table (Ok l)) where
    pub told_accepted : before_buffer h table ≡ no_cause
    told_accepted = told_verdict (Ok l) n

    pub told_bytes : l ≡ sheet_length h table
    told_bytes = ap bytes_told n.answer_is ∙ rw told_accepted

    pub told_long : 12 ≤ l
    unfolding sheet_length
    told_long = omega (arith, told_bytes)

  -- ---- what is written

  writes_by : (sheet₀ sheet₁ : List ℕ) (v : Verdict) (answer : Result ℕ Cause) → write_verdict h table (length sheet₀) ≡ v → answer ≡ answered v (how_many (header h) table)
      → sheet₁ ≡ written v (sheet h table) sheet₀ → Writes h table sheet₀ sheet₁ answer
  writes_by sheet₀ sheet₁ v answer e a s =
      let by = a ∙ ap (λ w. answered w (how_many (header h) table)) (sym e) in
      record { answer_is = by; number_is = code_by _ _ by; values_are = values_by single _ _ by; sheet_is = rw e s }

  -- refused before the buffer is looked at
  pub writes_refused : (sheet : List ℕ) (c : Cause) → Needs h table (Err c) → Writes h table sheet sheet (Err c)
  unfolding write_verdict
  writes_refused sheet c n = writes_by sheet sheet (Err c) _ (rw (told_verdict (Err c) n)) refl refl

  module _ (l : ℕ) (n : Needs h table (Ok l)) where
    -- by the buffer's length
    pub writes_length : (sheet : List ℕ) → length sheet ≢ l → Writes h table sheet sheet (Err Length)
    unfolding write_verdict
    writes_length sheet e =
        writes_by sheet sheet (Err Length) _
        (rw (told_accepted l n, length_refused (sheet_length h table) (length sheet) (λ q. e (q ∙ sym (told_bytes l n))))) refl refl

    -- the number of records
    pub told_records : (l - 12) / 8 ≡ how_many (header h) table
    unfolding sheet_length
    told_records = omega (arith, told_bytes l n)

    told_both : (header_and_table h (length table) ≡ no_cause) × (too_many h table ≡ no_cause)
    told_both = before_both (told_accepted l n)

    told_few : how_many (header h) table ≤ 4096
    told_few = before_few (told_accepted l n)

    -- no sheet is longer
    pub told_most : l ≤ 32780
    unfolding sheet_length
    told_most = omega (arith, told_bytes l n, told_few)

    -- nothing is left to refuse
    pub unrefused : (sheet : List ℕ) → length sheet ≡ l → Unrefused h table sheet ((l - 12) / 8)
    unfolding sheet_length
    unrefused sheet e = record {
      twelve = taken_twelve h (length table) told_both.0;
      ready = record {
        some = (taken_sound h (length table) told_both.0).some;
        few = (taken_sound h (length table) told_both.0).most;
        short = taken_short h (length table) told_both.0;
        narrow = (taken_sound h (length table) told_both.0).narrow;
        whole = taken_length h (length table) told_both.0;
        most = omega (arith, told_records, told_few);
        size = omega (arith, told_records, e, told_bytes l n);
        before = sym (count_zero (to_write (header h).line.n (header h).marks table));
      };
      all = told_records;
    }

    -- all of it is written
    pub writes_sheet : (sheet₀ sheet₁ : List ℕ) → length sheet₀ ≡ l → sheet₁ ≡ sheet h table → Writes h table sheet₀ sheet₁ (Ok ((l - 12) / 8))
    unfolding write_verdict
    writes_sheet sheet₀ sheet₁ e s =
        writes_by sheet₀ sheet₁ no_cause _ (rw (told_accepted l n, length_accepts (sheet_length h table) (length sheet₀) (e ∙ told_bytes l n))) (rw told_records) s

  -- ---- the whole sheet: the header, then all records

  pub sheet_laid : (s : List ℕ) (k : ℕ) → k ≡ how_many (header h) table → length s ≡ 12 + 8 * k
      → laid (laid s 0 (header_bytes h k)) 12 (records_bytes (header h) table k k) ≡ sheet h table
  sheet_laid s k is e =
      let recs = records_bytes (header h) table k k in
      let n = header_twelve h k in
      let long : length (header_bytes h k ++ recs) ≡ length s = length-append (header_bytes h k) recs ∙ rw (n, records_length (header h) table k k) (sym e) in
      let front = laid_front (header_bytes h k ++ recs) s (length s) long (le_refl (length s)) in
      let z : 0 + length (header_bytes h k) ≡ 12 = omega (arith, n) in
      rw z at (sym (laid_append (header_bytes h k) recs s 0)) ∙ sym front ∙ rw (drop-length, append-nil) (parts_whole h table k is)

  -- as the parts are put one after the other
  pub sheet_put : (s₀ s₁ s₂ : List ℕ) (k : ℕ) (g : Header) → Unrefused h table s₀ k → g ≡ header h → s₁ ≡ header_in s₀ h k
      → Goes_on g table s₁ 0 s₂ k → s₂ ≡ sheet h table
  sheet_put s₀ s₁ s₂ k g u e a b =
      let size : length s₀ ≡ 12 + 8 * k = omega (arith, u.ready.size, u.all) in
      b s₁ (records_none g table (how_many g table) s₁)
      ∙ rw (e, a, header_there s₀ h k u.twelve (omega (arith, size)), ← u.all) (sheet_laid s₀ k u.all size)
