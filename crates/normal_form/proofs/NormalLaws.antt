-- Laws of the rewritten sheet: what an accepted sheet reads as can be written, reads the same, and is written the same again. Assumes nothing.
use Rattle.std.specs.Prelude.{if◌then◌else◌}
use Rattle.refusal.specs.Cause.{no_cause}
use Prim.Native.Nat.{ℕ, ◌+◌, ◌/◌, ◌%◌, ◌≤◌, ◌<◌}
use mathlib.Core.Path.{◌≡◌, refl, sym, ap, ◌∙◌}
use mathlib.Core.Bool.{Bool, true, false, not, ◌&&◌}
use mathlib.Core.List.{List}
use native.Mathlib.Omega.{arith}
use lib.Dec.{eqb}
use lib.ListN.{length, get_or, take}
use borrow.Author.Tests.{le-ltb}
use Rattle.line.specs.Count.{count}
use Rattle.line.specs.Line.{rounds}
use Rattle.line.specs.Marks.{marked}
use Rattle.line.specs.Ballot.{silence}
use Rattle.line.proofs.CountLaws.{count_le, count_same}
use Rattle.refusal.specs.declared.cause.Cause.TheVariants.{TooManyRecords}
use Rattle.refusal.proofs.VerdictLaws.{refused_false, both_accepted}
use Rattle.layout.specs.Layout.{header, tables_wanted, most_records, records, round, from, to, ballot, bit}
use Rattle.layout.specs.Chain.{Record, reached, Ends, Fate}
use Rattle.layout.proofs.ChainLaws.{chain_short, before_end, one_length}
use Rattle.judgement.specs.Judgement.{verdict_to_8, chain_verdict, sheet_verdict}
use Rattle.reader.specs.Reading.{place_of, table_of}
use Rattle.reader.proofs.PlaceLaws.{InPlace, place_inside, bit_told, round_told, from_told, to_told}
use Rattle.reader.proofs.TableLaws.{judged, judged_place, accepted_ends, table_long, ballots_stand, unmarked_silent}
use Rattle.reader.proofs.PromiseLaws.{opening_length, opening_most}
use Rattle.selection.specs.Places.{bit_at, round_at, from_at, to_at, to_write, how_many, place_written}
use Rattle.selection.proofs.PlaceLaws.{told}
use Rattle.selection.proofs.OrderLaws.{written_back}
use Rattle.writer.specs.Sheet.{sheet}
use Rattle.writer.specs.Judgement.{too_many, before_buffer}
use Rattle.normal_form.specs.Reading.{kept}
use Rattle.normal_form.specs.Normal.{speaking, SameContent}
use Rattle.normal_form.proofs.SheetLaws as bytes
use Rattle.normal_form.proofs.ChainLaws.{is_record}
use Rattle.normal_form.proofs.FrontLaws.{front_header, front_accepted, form}
use Rattle.normal_form.proofs.LoudLaws.{loud, loud_is, filled_loud}

module _ (s : List ℕ) (l : ℕ) (f : Fate s) (v : sheet_verdict s l f ≡ no_cause) where
  opened : verdict_to_8 s l ≡ no_cause
  unfolding sheet_verdict
  opened = (both_accepted (verdict_to_8 s l) (chain_verdict s f) v).0

  -- ---- the table

  -- unmarked senders are silent in it
  silent_there : (p : ℕ) → p < tables_wanted s → marked (header s).marks (from_at (header s).line.n p) ≡ false
      → get_or (table_of s f) p 0 ≡ 255
  silent_there p u e =
      let n = (header s).line.n in
      let t = (header s).line.t in
      let w = told n t (header s).w p u in
      rw w.place_is at
      (unmarked_silent s l f v (bit_at n t p) (round_at n t p) (from_at n p) (to_at n p) w.bit_below w.round_low w.round_high w.from_below w.to_below e)

  -- so what is written is what is not silent
  write_is_loud : (p : ℕ) → p < tables_wanted s → to_write (header s).line.n (header s).marks (table_of s f) p ≡ loud (table_of s f) p
  unfolding to_write loud
  write_is_loud p u = go (marked (header s).marks (from_at (header s).line.n p)) refl
    where
      go : (b : Bool) → marked (header s).marks (from_at (header s).line.n p) ≡ b
          → b && not (eqb (get_or (table_of s f) p 0) silence) ≡ not (eqb (get_or (table_of s f) p 0) silence)
      go true e = refl
      go false e = rw (silent_there p u e)

  -- and all of it is kept
  pub all_kept : (p : ℕ) → p < tables_wanted s → kept (header s) (table_of s f) p ≡ get_or (table_of s f) p 0
  unfolding kept
  all_kept p u = go (marked (header s).marks (from_at (header s).line.n p)) refl
    where
      go : (b : Bool) → marked (header s).marks (from_at (header s).line.n p) ≡ b
          → (if b then get_or (table_of s f) p 0 else silence) ≡ get_or (table_of s f) p 0
      go true e = refl
      go false e = sym (silent_there p u e)

  -- ---- how many records are written

  -- the chained ones that are not of silence
  pub number_written : (m : ℕ) → Ends s m → how_many (header s) (table_of s f) ≡ count m (speaking s)
  unfolding how_many
  number_written m e =
      let (k, (d, (w, t))) = accepted_ends s l f v in
      let n = tables_wanted s in
      let a = count_same n (to_write (header s).line.n (header s).marks (table_of s f)) (loud (table_of s f)) write_is_loud in
      let b : count n (loud (table_of s f)) ≡ count k (speaking s) = rw t (filled_loud s k w) in
      a ∙ b ∙ ap (λ (i : ℕ). count i (speaking s)) (one_length s k m d e)

  -- no more than there are records
  few_written : how_many (header s) (table_of s f) ≤ records s
  few_written =
      let (m, (e, (w, t))) = accepted_ends s l f v in
      omega (arith, number_written m e, count_le m (speaking s), chain_short s m e)

  pub shorter : length (sheet (take 12 s) (table_of s f)) ≤ length s
  shorter = rw (bytes.length_is (take 12 s) (table_of s f), front_header s) (omega (arith, few_written, (form s l opened).length_is))

  -- so it can be written
  pub writable : before_buffer (take 12 s) (table_of s f) ≡ no_cause
  unfolding before_buffer too_many
  writable =
      let z : l ≡ length (table_of s f) = opening_length s l opened ∙ sym (table_long s l f v) in
      let few : how_many (header s) (table_of s f) ≤ most_records = omega (arith, few_written, opening_most s l opened) in
      rw (rw z at (front_accepted s l opened), front_header s) (refused_false TooManyRecords (le-ltb most_records (how_many (header s) (table_of s f)) few))

  -- ---- a chained record that is not of silence

  module _ (a : ℕ) (q : Record s (reached s a)) (speaks : speaking s a ≡ true) where
    passed : InPlace s (reached s a)
    passed =
        let (m, (e, (w, t))) = accepted_ends s l f v in
        judged_place s a (judged s m a w (before_end s m a e q))

    -- its place is written
    found : (count (place_of s (reached s a)) (to_write (header s).line.n (header s).marks (table_of s f)) < how_many (header s) (table_of s f))
        × (place_written (header s) (table_of s f) (count (place_of s (reached s a)) (to_write (header s).line.n (header s).marks (table_of s f)) + 1)
        ≡ place_of s (reached s a))
    unfolding speaking
    found =
        let p = place_of s (reached s a) in
        let inside = place_inside s (reached s a) passed in
        let said = loud_is (table_of s f) p (ballot s (reached s a)) (ballots_stand s l f v a q) in
        written_back (header s) (table_of s f) p inside (write_is_loud p inside ∙ said ∙ speaks)

    -- with its content
    pub kept_record : (i : ℕ) × SameContent s (reached s a) (sheet (take 12 s) (table_of s f)) i
    unfolding bit_at round_at from_at to_at
    kept_record =
        let h = take 12 s in
        let table = table_of s f in
        let r = sheet h table in
        let n = (header s).line.n in
        let p = place_of s (reached s a) in
        let i = count p (to_write (header s).line.n (header s).marks table) + 1 in
        let (u, g) = found in
        let hd = front_header s in
        let low : 1 ≤ i = omega arith in
        let high : i ≤ how_many (header h) table = rw hd (omega arith) in
        let x : round r i ≡ p / n / n % rounds (header s).line.t + 1 = bytes.round_is h table i low high ∙ rw (hd, g) in
        let y : from r i ≡ p / n % n + 1 = bytes.from_is h table i low high ∙ rw (hd, g) in
        let z : to r i ≡ p % n + 1 = bytes.to_is h table i low high ∙ rw (hd, g) in
        let b : ballot r i ≡ get_or table p 0 = bytes.ballot_is h table i low high ∙ rw (hd, g) in
        let c : bit r i ≡ p / n / n / rounds (header s).line.t = bytes.bit_is h table i low high ∙ rw (hd, g) in (
          i,
          record {
            a_record = is_record h table i low high;
            round_same = x ∙ round_told s (reached s a) passed;
            from_same = omega (arith, y, from_told s (reached s a) passed, passed.from_low);
            to_same = omega (arith, z, to_told s (reached s a) passed, passed.to_low);
            ballot_same = b ∙ ballots_stand s l f v a q;
            bit_same = c ∙ bit_told s (reached s a) passed;
          },
        )
