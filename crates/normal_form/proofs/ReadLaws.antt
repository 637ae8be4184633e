-- Laws of the written sheet as it is read: accepted, with the header and the table handed in, and in its normal form. Assumes nothing.
use Prim.Native.Nat.{ℕ, zero, suc, ◌+◌, ◌-◌, ◌≤◌, ◌<◌}
use Rattle.refusal.specs.Cause.{no_cause}
use mathlib.Core.Path.{◌≡◌, refl, sym, ◌∙◌}
use mathlib.Core.Bool.{Bool, true, false, not}
use mathlib.Core.Logic.{◌≢◌}
use mathlib.Core.List.{List}
use native.Mathlib.Nat.{le_refl}
use native.Mathlib.Omega.{arith}
use lib.Dec.{eqb}
use lib.ListN.{length, get_or}
use borrow.Author.Tests.{eqb-false, not-true}
use Rattle.line.specs.Count.{count}
use Rattle.line.specs.Marks.{marked}
use Rattle.line.specs.Ballot.{silence}
use Rattle.line.proofs.CountLaws.{count_same, count_none, both_true}
use Rattle.refusal.specs.declared.cause.Cause.TheVariants.{RecordForm, UnmarkedSender, Duplicate}
use Rattle.refusal.proofs.VerdictLaws.{refused_false}
use Rattle.layout.specs.Layout.{header, tables_wanted, from, to, ballot}
use Rattle.layout.specs.Chain.{Record, reached}
use Rattle.judgement.specs.Judgement.{misplaced, record_form, unmarked_sender, same_place, taken_before, duplicate, record_verdict, records_verdict}
use Rattle.judgement.proofs.RangeLaws.{range_passes}
use Rattle.reader.specs.Reading.{place_of, filled}
use Rattle.reader.proofs.PlaceLaws.{InPlace, same_tells}
use Rattle.reader.proofs.TableLaws.{filled_length, filled_at, filled_else}
use Rattle.selection.specs.Places.{from_at, to_at, to_write, how_many, place_written}
use Rattle.selection.proofs.PlaceLaws.{told}
use Rattle.selection.proofs.OrderLaws.{write_marked, write_not, written_is, written_back, in_order}
use Rattle.writer.specs.Sheet.{sheet}
use Rattle.normal_form.specs.Reading.{kept}
use Rattle.normal_form.specs.Normal.{Tidy}
use Rattle.normal_form.proofs.SheetLaws as bytes
use Rattle.normal_form.proofs.ChainLaws.{reached_is, chain_ends}
use Rattle.normal_form.proofs.SameLaws.{written_header}

-- a byte that is written is not silence
write_loud : (n marks : ℕ) (table : List ℕ) (p : ℕ) → to_write n marks table p ≡ true → get_or table p 0 ≢ silence
unfolding to_write
write_loud n marks table p e =
    let b = eqb (get_or table p 0) silence in
    eqb-false (get_or table p 0) silence (not-true b (both_true (marked marks (from_at n p)) (not b) e).1)

module _ (h table : List ℕ) where
  -- ---- one record

  module _ (m : ℕ) (some : 1 ≤ m) (most : m ≤ how_many (header h) table) where
    from_is : from (sheet h table) m - 1 ≡ from_at (header h).line.n (place_written (header h) table m)
    from_is = omega (arith, bytes.from_is h table m some most)

    to_is : to (sheet h table) m - 1 ≡ to_at (header h).line.n (place_written (header h) table m)
    to_is = omega (arith, bytes.to_is h table m some most)

    -- its numbers are in their ranges
    in_place : InPlace (sheet h table) m
    in_place =
        let w = told (header h).line.n (header h).line.t (header h).w (place_written (header h) table m) (written_is (header h) table m some most).below in
        let r = bytes.round_is h table m some most in
        let f = bytes.from_is h table m some most in
        let t = bytes.to_is h table m some most in
        rw (written_header h table) (record {
          round_low = rw r w.round_low;
          round_high = rw r w.round_high;
          from_low = omega (arith, f);
          from_high = omega (arith, f, w.from_below);
          to_low = omega (arith, t);
          to_high = omega (arith, t, w.to_below);
          bit_below = rw (bytes.bit_is h table m some most) w.bit_below;
          rest_zero = bytes.rest_is h table m some most;
        })

    pub place_is : place_of (sheet h table) m ≡ place_written (header h) table m
    unfolding place_of
    place_is =
        let w = told (header h).line.n (header h).line.t (header h).w (place_written (header h) table m) (written_is (header h) table m some most).below in
        rw (written_header h table, bytes.bit_is h table m some most, bytes.round_is h table m some most, from_is, to_is) w.place_is

    -- 11
    well_placed : misplaced (sheet h table) m ≡ false
    unfolding misplaced
    well_placed = range_passes _ _ _ _ _ _ _ _ in_place

    -- 12
    marked_sender : marked (header (sheet h table)).marks (from (sheet h table) m - 1) ≡ true
    marked_sender =
        rw (written_header h table, from_is)
        (write_marked (header h).line.n (header h).marks table (place_written (header h) table m) (written_is (header h) table m some most).passes)

  -- ---- the chain's records

  place_at : (a : ℕ) → a < how_many (header h) table → place_of (sheet h table) (reached (sheet h table) a) ≡ place_written (header h) table (a + 1)
  place_at a l = rw (reached_is h table a l) (place_is (a + 1) (omega arith) (omega arith))

  -- 13
  not_before : (a : ℕ) → a < how_many (header h) table → taken_before (sheet h table) a ≡ false
  unfolding taken_before
  not_before a l =
      let s = sheet h table in
      let taken : ℕ → Bool = λ c. same_place s (reached s c) (reached s a) in
      rw (count_same a taken (λ c. false) (λ c u. go c u (same_place s (reached s c) (reached s a)) refl) ∙ count_none a)
    where
      go : (c : ℕ) → c < a → (b : Bool) → same_place (sheet h table) (reached (sheet h table) c) (reached (sheet h table) a) ≡ b → b ≡ false
      go c u false e = refl
      go c u true e =
          let s = sheet h table in
          let z = sym (place_at c (omega arith)) ∙ same_tells s (reached s c) (reached s a) e ∙ place_at a l in
          absurd (omega (arith, z, (in_order (header h) table).increasing (c + 1) (a + 1) (omega arith) (omega arith) (omega arith)))

  record_passes : (a : ℕ) → a < how_many (header h) table → record_verdict (sheet h table) a ≡ no_cause
  unfolding record_verdict record_form unmarked_sender duplicate
  record_passes a l =
      let s = sheet h table in
      let e = reached_is h table a l in
      let x : misplaced s (reached s a) ≡ false = rw e (well_placed (a + 1) (omega arith) (omega arith)) in
      let y : marked (header s).marks (from s (reached s a) - 1) ≡ true = rw e (marked_sender (a + 1) (omega arith) (omega arith)) in
      let y' : not (marked (header s).marks (from s (reached s a) - 1)) ≡ false = rw y in
      rw (refused_false RecordForm x, refused_false UnmarkedSender y', refused_false Duplicate (not_before a l))

  pub records_pass : (m : ℕ) → m ≤ how_many (header h) table → records_verdict (sheet h table) m ≡ no_cause
  unfolding records_verdict
  records_pass zero l = refl
  records_pass (suc m) l = rw (records_pass m (omega arith), record_passes m l)

  -- ---- the table

  module _ (p : ℕ) where
    kept_marked : marked (header h).marks (from_at (header h).line.n p) ≡ true → kept (header h) table p ≡ get_or table p 0
    unfolding kept
    kept_marked e = rw e

    kept_unmarked : marked (header h).marks (from_at (header h).line.n p) ≡ false → kept (header h) table p ≡ 255
    unfolding kept
    kept_unmarked e = rw e

  pub filled_whole : length (filled (sheet h table) (how_many (header h) table)) ≡ tables_wanted h
  filled_whole = rw (filled_length (sheet h table) (how_many (header h) table), written_header h table)

  -- a byte that is not written is read as silence
  filled_silent : (p : ℕ) → p < tables_wanted h → to_write (header h).line.n (header h).marks table p ≡ false
      → get_or (filled (sheet h table) (how_many (header h) table)) p 0 ≡ 255
  filled_silent p l e =
      let s = sheet h table in
      let l' : p < tables_wanted s = rw (written_header h table) l in
      filled_else s (how_many (header h) table) p l'
      (λ a u q.
      let f = (written_is (header h) table (a + 1) (omega arith) (omega arith)).passes in
      let g : place_written (header h) table (a + 1) ≡ p = sym (place_at a u) ∙ q in
      let f' : to_write (header h).line.n (header h).marks table p ≡ true = rw g at f in
      let z : ◌≡◌ {A = ℕ} 0 1 = cc in
      omega arith)

  -- one that is written is read as it was
  filled_written : (p : ℕ) → p < tables_wanted h → to_write (header h).line.n (header h).marks table p ≡ true
      → get_or (filled (sheet h table) (how_many (header h) table)) p 0 ≡ get_or table p 0
  filled_written p l e =
      let s = sheet h table in
      let k = how_many (header h) table in
      let a = count p (to_write (header h).line.n (header h).marks table) in
      let (u, g) = written_back (header h) table p l e in
      let x : place_of s (reached s a) ≡ p = place_at a u ∙ g in
      let z : ballot s (reached s a) ≡ get_or table (place_written (header h) table (a + 1)) 0 =
      rw (reached_is h table a u) (bytes.ballot_is h table (a + 1) (omega arith) (omega arith)) in
      rw x at (filled_at s k a (records_pass k (le_refl k)) u) ∙ z ∙ rw g

  pub filled_kept : (p : ℕ) → p < tables_wanted h
      → get_or (filled (sheet h table) (how_many (header h) table)) p 0 ≡ kept (header h) table p
  filled_kept p l = go (to_write (header h).line.n (header h).marks table p) (marked (header h).marks (from_at (header h).line.n p)) refl refl
    where
      go : (b c : Bool) → to_write (header h).line.n (header h).marks table p ≡ b → marked (header h).marks (from_at (header h).line.n p) ≡ c
          → get_or (filled (sheet h table) (how_many (header h) table)) p 0 ≡ kept (header h) table p
      go true c e f = filled_written p l e ∙ sym (kept_marked p (write_marked (header h).line.n (header h).marks table p e))
      go false true e f = filled_silent p l e ∙ sym (write_not (header h).line.n (header h).marks table p e f) ∙ sym (kept_marked p f)
      go false false e f = filled_silent p l e ∙ sym (kept_unmarked p f)

  -- ---- its form

  within : (i : ℕ) → Record (sheet h table) i → i ≤ how_many (header h) table
  within i r = omega (arith, r.high, bytes.records_are h table)

  pub tidy : Tidy (sheet h table)
  tidy = record {
    chained = λ i r.
        let e : i - 1 + 1 ≡ i = omega (arith, r.low) in
        reached_is h table (i - 1) (omega (arith, r.low, within i r)) ∙ e;
    ends_there = rw (bytes.records_are h table) (chain_ends h table);
    spoken = λ i r.
        rw (bytes.ballot_is h table i r.low (within i r))
        (write_loud (header h).line.n (header h).marks table (place_written (header h) table i) (written_is (header h) table i r.low (within i r)).passes);
    in_order = λ i j r q l.
        rw (place_is i r.low (within i r), place_is j q.low (within j q))
        ((in_order (header h) table).increasing i j r.low l (within j q));
  }
