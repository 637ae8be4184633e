-- Laws of an accepted sheet, rewritten: it is the sheet's normal form, and that of every sheet that reads alike. Assumes nothing.
use Prim.Native.Nat.{ℕ, ◌+◌, ◌<◌}
use Rattle.refusal.specs.Cause.{no_cause}
use mathlib.Core.Path.{◌≡◌, sym, ◌∙◌}
use mathlib.Core.List.{List}
use native.Mathlib.Omega.{arith}
use lib.ListN.{length, take}
use lib.Seq.{ext_get_or}
use Rattle.layout.specs.Layout.{tables_wanted}
use Rattle.layout.specs.Chain.{Fate}
use Rattle.judgement.specs.Judgement.{sheet_verdict}
use Rattle.reader.specs.Reading.{table_of}
use Rattle.writer.specs.Sheet.{sheet}
use Rattle.normal_form.specs.Normal.{rewritten, Rewrites, ReadAlike}
use Rattle.normal_form.proofs.SameLaws.{SameNumbers, same_trans, same_sheet, written_same}
use Rattle.normal_form.proofs.ReadLaws.{tidy}
use Rattle.normal_form.proofs.BackLaws.{read_back}
use Rattle.normal_form.proofs.FrontLaws.{front_byte, front_same, front_header}
use Rattle.reader.proofs.TableLaws.{table_long}
use Rattle.normal_form.proofs.NormalLaws.{all_kept, number_written, shorter, writable, kept_record}

module _ (s : List ℕ) (l : ℕ) (f : Fate s) (v : sheet_verdict s l f ≡ no_cause) where
  -- the table is read back whole
  back : (g : Fate (sheet (take 12 s) (table_of s f))) → table_of (sheet (take 12 s) (table_of s f)) g ≡ table_of s f
  back g =
      let table = table_of s f in
      let r = read_back (take 12 s) table (writable s l f v) in
      ext_get_or 0 (table_of (sheet (take 12 s) table) g) table (r.length_back g)
      (λ p u.
      let u' : p < length table = omega (arith, r.length_back g) in
      let u'' : p < tables_wanted s = omega (arith, table_long s l f v) in
      r.table_back g p u' ∙ rw (front_header s) (all_kept s l f v p u''))

  pub rewrites : Rewrites s f
  unfolding rewritten
  rewrites =
      let h = take 12 s in
      let table = table_of s f in
      let r = read_back h table (writable s l f v) in
      record {
        writable = writable s l f v;
        no_longer = shorter s l f v;
        tidy = tidy h table;
        number_is = λ m e. sym r.all_records ∙ rw (front_header s) (number_written s l f v m e);
        keeps = kept_record s l f v;
        accepted = r.accepted;
        header_same = r.header_back ∙ front_header s;
        table_same = back;
        again_same = λ g.
            rw (back g)
            (same_sheet (take 12 (sheet h table)) h (same_trans (take 12 (sheet h table)) (sheet h table) h (front_same (sheet h table)) (written_same h table)) table);
      }

pub one_form : (s s' : List ℕ) (f : Fate s) (f' : Fate s') → ReadAlike s s' f f' → rewritten s f ≡ rewritten s' f'
unfolding rewritten
one_form s s' f f' w =
    let same : SameNumbers (take 12 s) (take 12 s') = record {
      before = λ b u. front_byte s b (omega arith) ∙ w.before_same b u ∙ sym (front_byte s' b (omega arith));
      behind = λ b u.
          front_byte s (8 + b) (omega arith) ∙ w.behind_same (8 + b) (omega arith) (omega arith) ∙ sym (front_byte s' (8 + b) (omega arith));
    } in
    rw w.table_same (same_sheet (take 12 s) (take 12 s') same (table_of s' f'))
