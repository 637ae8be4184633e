-- Laws of what the calls promise: what no cause refuses, and the promises by what was done. Assumes nothing.
use Prim.Native.Nat.{ℕ, ◌%◌, ◌≤◌}
use Rattle.std.specs.declared.result.Result.TheVariants.{Err}
use mathlib.Core.Path.{◌≡◌, sym, ap, ◌∙◌}
use mathlib.Core.Bool.{false, true}
use mathlib.Core.List.{List}
use native.Mathlib.Nat.{mul-mod_left}
use lib.ListN.{length}
use Rattle.line.specs.Width.{tables_length}
use Rattle.refusal.specs.Cause.{◌or_else◌, no_cause}
use Rattle.refusal.specs.declared.cause.Cause.{Cause}
use Rattle.refusal.specs.Cause.{Verdict}
use Rattle.refusal.proofs.VerdictLaws.{judged, both_accepted}
use Rattle.header.specs.Header.{exact_length}
use Rattle.header.proofs.HeaderLaws.{number_sound, length_exact}
use Rattle.layout.specs.Layout.{header, tables_wanted}
use Rattle.judgement.specs.Judgement.{header_length, sheet_form, verdict_to_6}
use Rattle.selection.proofs.PlaceLaws.{tables_rounds}
use Rattle.generator.specs.Tables.{generated}
use Rattle.generator.specs.Judgement.{seed_some, generate_verdict}
use Rattle.generator.specs.Promise.{whole_rows, Fills, Generates}
use Rattle.generator.specs.Loops.{Rows, Drawn}
use Rattle.generator.proofs.TableLaws.{drawn_all, rows_whole}

-- ---- what `fill` promises

module _ (n marks state : ℕ) (table₀ : List ℕ) where
  -- nothing is done
  pub fills_none : whole_rows n (length table₀) ≡ false → Fills n marks state table₀ table₀ state
  fills_none e = record { table_is = rw e; state_is = rw e }

  -- all rows are drawn
  pub fills_all : (table₁ : List ℕ) (r : ℕ) → Rows n (length table₀) → Drawn n marks state (length table₀) table₀ table₁ r → Fills n marks state table₀ table₁ r
  fills_all table₁ r rows P =
      let e = rows_whole n (length table₀) rows.some rows.whole in
      record { table_is = rw e (drawn_all n marks state table₀ table₁ r P); state_is = rw e P.state_is }

-- ---- what no cause refuses

module _ (h : List ℕ) (seed size : ℕ) (e : generate_verdict h seed size ≡ no_cause) where
  after_length : verdict_to_6 h or_else seed_some seed or_else exact_length (tables_wanted h) size ≡ no_cause
  unfolding generate_verdict
  after_length = (both_accepted (header_length h) _ e).1

  taken_stations : 1 ≤ (header h).line.n
  unfolding verdict_to_6
  taken_stations = (number_sound _ _ _ _ _ _ _ (both_accepted (sheet_form h) _ (both_accepted (verdict_to_6 h) _ after_length).0).1).some

  taken_size : size ≡ tables_wanted h
  taken_size = length_exact (tables_wanted h) size (both_accepted (seed_some seed) _ (both_accepted (verdict_to_6 h) _ after_length).1).1

-- all bits' tables are whole rows
pub tables_rows : (n t w : ℕ) → 1 ≤ n → whole_rows n (tables_length n t w) ≡ true
tables_rows n t w some = rows_whole n (tables_length n t w) some (ap (λ (k : ℕ). k % n) (tables_rounds n t w) ∙ mul-mod_left _ n)

-- ---- what `generate` promises

module _ (h : List ℕ) (seed : ℕ) (table₀ : List ℕ) {answer : Verdict} (v : answer ≡ generate_verdict h seed (length table₀)) where
  pub generates_accepted : (table₁ : List ℕ) (r : ℕ) → answer ≡ no_cause → Fills (header h).line.n (header h).marks seed table₀ table₁ r
      → Generates h seed table₀ table₁ answer
  unfolding generated
  generates_accepted table₁ r a f =
      let e = sym v ∙ a in
      let size = taken_size h seed (length table₀) e in
      let whole : whole_rows (header h).line.n (length table₀) ≡ true = rw size (tables_rows _ _ _ (taken_stations h seed (length table₀) e)) in
      record { judged = judged v; table_is = rw a (rw (whole, size) at f.table_is) }

  pub generates_refused : (c : Cause) → answer ≡ Err c → Generates h seed table₀ table₀ answer
  generates_refused c q = record { judged = judged v; table_is = rw q }
