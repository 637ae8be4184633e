-- Laws of two headers that differ in the first index only: they have the same numbers, and are judged and written alike. Assumes nothing.
use Prim.Native.Nat.{ℕ, ◌+◌, ◌<◌}
use Rattle.refusal.specs.Cause.{no_cause}
use mathlib.Core.Path.{◌≡◌, ◌∙◌}
use mathlib.Core.List.{List}
use native.Mathlib.Omega.{arith}
use Rattle.refusal.proofs.VerdictLaws.{both_accepted}
use Rattle.layout.specs.Layout.{byte, two, four, header}
use Rattle.judgement.specs.Judgement.{sheet_form, verdict_to_6, verdict_to_8}
use Rattle.record.specs.Bytes.{header_bytes}
use Rattle.writer.specs.Sheet.{sheet}
use Rattle.normal_form.proofs.SheetLaws.{header_is, marks_are}

-- the ten bytes beside the first index
pub record SameNumbers (h h' : List ℕ) : Type 0 where
  pub before : (b : ℕ) → b < 6 → byte h b ≡ byte h' b
  pub behind : (b : ℕ) → b < 4 → byte h (8 + b) ≡ byte h' (8 + b)

-- causes 1, 15 and 2 to 8 begin with the form
pub opening_formed : (s : List ℕ) (l : ℕ) → verdict_to_8 s l ≡ no_cause → sheet_form s ≡ no_cause
unfolding verdict_to_8 verdict_to_6
opening_formed s l v = (both_accepted (sheet_form s) _ (both_accepted (verdict_to_6 s) _ v).0).0

module _ (h h' : List ℕ) (w : SameNumbers h h') where
  pub same_header : header h ≡ header h'
  unfolding header four two
  same_header =
      rw (
        w.before 0 (omega arith),
        w.before 1 (omega arith),
        w.before 2 (omega arith),
        w.before 3 (omega arith),
        w.before 4 (omega arith),
        w.before 5 (omega arith),
        w.behind 0 (omega arith),
        w.behind 1 (omega arith),
        w.behind 2 (omega arith),
        w.behind 3 (omega arith),
      )

  -- where neither is refused for its form
  pub same_opening : (l : ℕ) → sheet_form h ≡ no_cause → sheet_form h' ≡ no_cause → verdict_to_8 h l ≡ verdict_to_8 h' l
  unfolding verdict_to_8 verdict_to_6
  same_opening l a b = rw (a, b, same_header)

  same_bytes : (k : ℕ) → header_bytes h k ≡ header_bytes h' k
  unfolding header_bytes
  same_bytes k =
      rw (
        w.before 0 (omega arith),
        w.before 1 (omega arith),
        w.before 2 (omega arith),
        w.before 3 (omega arith),
        w.before 4 (omega arith),
        w.before 5 (omega arith),
        w.behind 0 (omega arith),
        w.behind 1 (omega arith),
        w.behind 2 (omega arith),
        w.behind 3 (omega arith),
      )

  pub same_sheet : (table : List ℕ) → sheet h table ≡ sheet h' table
  unfolding sheet
  same_sheet table = rw (same_header, same_bytes)

pub same_trans : (h h' h'' : List ℕ) → SameNumbers h h' → SameNumbers h' h'' → SameNumbers h h''
same_trans h h' h'' w x = record { before = λ b l. w.before b l ∙ x.before b l; behind = λ b l. w.behind b l ∙ x.behind b l }

-- a written sheet has the header handed in
module _ (h table : List ℕ) where
  pub written_same : SameNumbers (sheet h table) h
  written_same = record { before = header_is h table; behind = marks_are h table }

  pub written_header : header (sheet h table) ≡ header h
  written_header = same_header (sheet h table) h written_same
