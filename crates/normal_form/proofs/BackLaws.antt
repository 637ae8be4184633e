-- Laws of what is written and read back: nothing that can be written is refused or changed. Assumes nothing.
use Prim.Native.Nat.{ℕ}
use Rattle.refusal.specs.Cause.{no_cause}
use mathlib.Core.Path.{◌≡◌, sym, ◌∙◌}
use mathlib.Core.List.{List}
use native.Mathlib.Nat.{le_refl}
use lib.ListN.{length}
use Rattle.layout.specs.Layout.{header}
use Rattle.layout.specs.Chain.{Fate, ends}
use Rattle.judgement.specs.Judgement.{verdict_to_8, sheet_verdict}
use Rattle.judgement.specs.Theorems.{WellFormed}
use Rattle.judgement.proofs.FormLaws.{form_accepts}
use Rattle.reader.proofs.FateLaws.{one_fate}
use Rattle.selection.specs.Places.{how_many}
use Rattle.writer.specs.Sheet.{sheet}
use Rattle.writer.specs.Judgement.{header_and_table, before_buffer}
use Rattle.writer.proofs.PromiseLaws.{before_both, before_few, taken_both, taken_length}
use Rattle.normal_form.specs.Reading.{ReadBack}
use Rattle.normal_form.proofs.SheetLaws as bytes
use Rattle.normal_form.proofs.ChainLaws.{chain_ends}
use Rattle.normal_form.proofs.SameLaws.{opening_formed, same_opening, written_same, written_header}
use Rattle.normal_form.proofs.ReadLaws.{records_pass, filled_whole, filled_kept}

module _ (h table : List ℕ) (w : before_buffer h table ≡ no_cause) where
  taken : header_and_table h (length table) ≡ no_cause
  taken = (before_both h table w).0

  well_formed : WellFormed (sheet h table) (how_many (header h) table)
  well_formed = record {
    length_is = bytes.length_is h table;
    most = before_few h table w;
  }

  opening : verdict_to_8 (sheet h table) (length table) ≡ no_cause
  opening =
      let v = (taken_both h (length table) taken).1 in
      same_opening (sheet h table) h (written_same h table) (length table)
      (form_accepts (sheet h table) (how_many (header h) table) well_formed).0 (opening_formed h (length table) v) ∙ v

  pub read_back : ReadBack h table
  unfolding sheet_verdict
  read_back =
      let s = sheet h table in
      let k = how_many (header h) table in
      let here : Fate s = ends k (chain_ends h table) in
      let v : sheet_verdict s (length table) here ≡ no_cause = rw (opening, records_pass h table k (le_refl k)) in
      let long = taken_length h (length table) taken in
      record {
        all_records = sym (bytes.records_are h table);
        chain_ends = chain_ends h table;
        accepted = λ f. (one_fate s f here).0 (length table) ∙ v;
        header_back = written_header h table;
        length_back = λ f. rw (one_fate s f here).1 (filled_whole h table ∙ sym long);
        table_back = λ f p l. rw (one_fate s f here).1 (filled_kept h table p (rw long at l));
      }
