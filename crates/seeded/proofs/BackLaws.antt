-- Laws of generated tables that are written and read back. Assumes nothing.
use Prim.Native.Nat.{ℕ, ◌≤◌, ◌<◌}
use Rattle.refusal.specs.Cause.{no_cause}
use mathlib.Core.Path.{◌≡◌, refl, sym, ◌∙◌}
use mathlib.Core.Bool.{Bool, true, false}
use mathlib.Core.List.{List}
use lib.ListN.{length, get_or}
use lib.Seq.{ext_get_or}
use borrow.Author.Tests.{le-ltb}
use Rattle.std.specs.Prelude.{if◌then◌else◌}
use Rattle.line.specs.Marks.{marked}
use Rattle.refusal.specs.declared.cause.Cause.TheVariants.{TooManyRecords}
use Rattle.refusal.proofs.VerdictLaws.{both_accepted, refused_false}
use Rattle.header.proofs.HeaderLaws.{length_accepts}
use Rattle.layout.specs.Layout.{header, tables_wanted, most_records}
use Rattle.layout.specs.Chain.{Fate}
use Rattle.judgement.specs.Judgement.{header_length, verdict_to_6, verdict_to_8, sheet_verdict}
use Rattle.reader.specs.Reading.{table_of}
use Rattle.selection.specs.Places.{from_at, how_many}
use Rattle.writer.specs.Sheet.{sheet}
use Rattle.writer.specs.Judgement.{header_and_table, too_many, before_buffer}
use Rattle.listing_lines.specs.Lines.{verdict, lines}
use Rattle.normal_form.specs.Reading.{kept, ReadBack}
use Rattle.normal_form.proofs.BackLaws.{read_back}
use Rattle.generator.specs.Tables.{generated}
use Rattle.generator.specs.Judgement.{generate_verdict}
use Rattle.generator.proofs.TableLaws.{generated_length, generated_at, byte_silent}
use Rattle.seeded.specs.Promise.{seed_run}
use Rattle.seeded.specs.Listings.{seed_lines}
use Rattle.seeded.specs.Theorems.{GeneratedBack}

module _ (h : List ℕ) (seed : ℕ) where
  abbrev table : List ℕ
  table = generated (header h) seed

  table_size : length table ≡ tables_wanted h
  table_size = generated_length (header h) seed

  -- what is read back of a byte is the byte: an unmarked sender's is silence in both
  kept_same : (p : ℕ) → p < length table → kept (header h) table p ≡ get_or table p 0
  unfolding kept
  kept_same p l = go (marked (header h).marks (from_at (header h).line.n p)) refl
    where
      go : (b : Bool) → marked (header h).marks (from_at (header h).line.n p) ≡ b → (if b then get_or (generated (header h) seed) p 0 else 255) ≡ get_or (generated (header h) seed) p 0
      go true e = refl
      go false e = sym (generated_at (header h) seed p (rw (generated_length (header h) seed) at l) ∙ byte_silent (header h).line.n (header h).marks seed p e)

  module _ (v : generate_verdict h seed (tables_wanted h) ≡ no_cause) (few : how_many (header h) table ≤ most_records) where
    twelve : header_length h ≡ no_cause
    unfolding generate_verdict
    twelve = (both_accepted (header_length h) _ v).0

    headed : verdict_to_6 h ≡ no_cause
    unfolding generate_verdict
    headed = (both_accepted (verdict_to_6 h) _ (both_accepted (header_length h) _ v).1).0

    writable : before_buffer h table ≡ no_cause
    unfolding before_buffer header_and_table verdict_to_8 too_many
    writable = rw (twelve, headed, length_accepts (tables_wanted h) (length table) table_size, refused_false TooManyRecords (le-ltb _ _ few))

    back : ReadBack h table
    back = read_back h table writable

    table_back : (f : Fate (sheet h table)) → table_of (sheet h table) f ≡ table
    table_back f =
        ext_get_or 0 _ _ (back.length_back f)
        (λ p q. let l : p < length table = rw (back.length_back f) at q in back.table_back f p l ∙ kept_same p l)

    accepted : (f : Fate (sheet h table)) → sheet_verdict (sheet h table) (tables_wanted h) f ≡ no_cause
    accepted f = rw table_size at (back.accepted f)

    same_listing : (f : Fate (sheet h table)) → lines (sheet h table) f ≡ seed_lines (header h) seed
    unfolding lines seed_lines seed_run verdict
    same_listing f = rw (back.header_back, accepted f, table_back f)

    pub generated_back : GeneratedBack h seed
    generated_back = record {
      writable = writable;
      accepted = accepted;
      header_back = back.header_back;
      table_back = table_back;
      same_listing = same_listing;
    }
