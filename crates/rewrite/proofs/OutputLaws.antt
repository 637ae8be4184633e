-- Laws of the output: a sheet at its start, and what the reader's answer makes of it. Assumes nothing.
use Prim.Native.Nat.{ℕ, ◌≤◌, min}
use Rattle.std.specs.declared.result.Result.{Result}
use Rattle.refusal.specs.Cause.{no_cause}
use Rattle.std.specs.declared.result.Result.TheVariants.{Ok, Err}
use mathlib.Core.Path.{◌≡◌, sym, ap, ◌∙◌}
use mathlib.Core.List.{List, ◌++◌}
use native.Mathlib.Nat.{min-eq_left}
use native.Mathlib.Omega.{arith}
use lib.ListN.{length, take, drop, length-append}
use lib.Seq.{take-append_seam, length-take-le}
use Rattle.line.specs.Width.{largest_tables}
use Rattle.line.proofs.WidthLaws.{tables_bound}
use Rattle.refusal.specs.declared.cause.Cause.{Cause}
use Rattle.refusal.proofs.VerdictLaws.{both_accepted}
use Rattle.header.proofs.HeaderLaws.{length_accepts}
use Rattle.header.specs.declared.Header.{Header}
use Rattle.layout.specs.Layout.{header, tables_wanted}
use Rattle.judgement.specs.Judgement.{verdict_to_8, chain_verdict, sheet_verdict}
use Rattle.reader.specs.Reading.{table_of, Reads}
use Rattle.listing_lines.specs.Lines as lines
use Rattle.listing_lines.proofs.VerdictLaws.{read_accepted, read_refused, verdict_same}
use Rattle.writer.specs.Sheet.{sheet, sheet_length}
use Rattle.writer.specs.Judgement.{before_buffer, write_verdict}
use Rattle.writer.specs.Writing.{Needs, Writes}
use Rattle.writer.proofs.PromiseLaws.{told_accepted, told_bytes, told_most}
use Rattle.normal_form.specs.Normal.{rewritten}
use Rattle.normal_form.proofs.SheetLaws.{length_is}
use Rattle.normal_form.proofs.FrontLaws.{form}
use Rattle.normal_form.proofs.Theorems.{normal_form}
use Rattle.rewrite.specs.Output.{Rewritten}

-- ---- a sheet, written

module _ (h table : List ℕ) {answer : Result ℕ Cause} (n : Needs h table answer) where
  -- what nothing refuses is given its length
  pub not_refused : (c : Cause) {A : Type 0} → before_buffer h table ≡ no_cause → answer ≡ Err c → A
  not_refused c w e =
      let a : Err c ≡ Ok (sheet_length h table) = sym e ∙ n.answer_is ∙ rw w in
      let z : ◌≡◌ {A = ℕ} 0 1 = cc in
      absurd (omega arith)

  module _ (l : ℕ) (e : answer ≡ Ok l) where
    needs : Needs h table (Ok l)
    needs = rw (← e) n

    -- the longest sheet's buffer has room for it
    pub room : (size : ℕ) → size ≡ 32780 → l ≤ size
    room size q = omega (arith, q, told_most h table l needs)

    -- and all of it stands at the start
    pub stands : (out bytes : List ℕ) {written : Result ℕ Cause} → length out ≡ 32780 → Writes h table (take l out) bytes written
        → (l ≤ length (bytes ++ drop l out)) × (take l (bytes ++ drop l out) ≡ sheet h table)
    unfolding write_verdict sheet_length
    stands out bytes q w =
        let long : length (take l out) ≡ l = length-take-le l out (room (length out) q) in
        let v : write_verdict h table (length (take l out)) ≡ no_cause =
        rw (told_accepted h table l needs, length_accepts (sheet_length h table) (length (take l out)) (long ∙ told_bytes h table l needs)) in
        let b : bytes ≡ sheet h table = rw v at w.sheet_is in
        let m : length bytes ≡ l = rw b (length_is h table) ∙ sym (told_bytes h table l needs) in
        (rw (length-append bytes (drop l out)) (omega (arith, m)), ap (λ (i : ℕ). take i (bytes ++ drop l out)) (sym m) ∙ take-append_seam bytes (drop l out) ∙ b)

-- ---- by the reader's answer

module _ (s table₀ table₁ : List ℕ) {answer : Result Header Cause} (r : Reads s table₀ table₁ answer) (lent : length table₀ ≡ min (tables_wanted s) largest_tables) where
  -- the verdict is the sheet's own
  own : sheet_verdict s (length table₀) r.fate ≡ lines.verdict s r.fate
  own = verdict_same s r.fate (length table₀)
      (λ sound. lent ∙ min-eq_left (tables_bound (header s).line.n (header s).line.t (header s).line.upper (header s).w sound.most sound.fits sound.narrow))

  module _ (h : Header) (e : answer ≡ Ok h) where
    accepted : sheet_verdict s (length table₀) r.fate ≡ no_cause
    accepted = (read_accepted s table₀ table₁ r h e).0

    table_is : table₁ ≡ table_of s r.fate
    table_is = rw accepted at r.table_is

    -- the sheet has a header
    pub headed : 12 ≤ length s
    unfolding sheet_verdict
    headed =
        let opened = (both_accepted (verdict_to_8 s (length table₀)) (chain_verdict s r.fate) accepted).0 in
        omega (arith, (form s (length table₀) opened).length_is)

    -- what was read can be written
    pub writable : before_buffer (take 12 s) table₁ ≡ no_cause
    writable = rw table_is (normal_form s (length table₀) r.fate accepted).writable

    pub accepted_output : (out : List ℕ) (n : ℕ) → (n ≤ length out) × (take n out ≡ sheet (take 12 s) table₁) → Rewritten s out n
    unfolding rewritten
    accepted_output out n w = record { fate = r.fate; inside = w.0; whole = w.1 ∙ rw (← own, accepted, table_is) }

  pub refused : (c : Cause) → answer ≡ Err c → lines.verdict s r.fate ≡ Err c
  refused c e = sym own ∙ read_refused s table₀ table₁ r c e
