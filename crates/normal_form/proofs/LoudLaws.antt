-- Laws of the table's bytes that are not silence: as many as chained records that speak. Assumes nothing.
use Prim.Native.Nat.{ℕ, zero, suc, ◌<◌}
use Rattle.refusal.specs.Cause.{no_cause}
use mathlib.Core.Path.{◌≡◌, refl, sym, ◌∙◌}
use mathlib.Core.Bool.{Bool, false, not}
use mathlib.Core.List.{List}
use native.Mathlib.Omega.{arith}
use lib.Dec.{eqb}
use lib.ListN.{length, get_or, set, get_or-replicate}
use lib.Seq.{get_or-set_same, get_or-set_other}
use Rattle.line.specs.Count.{count}
use Rattle.line.specs.Ballot.{silence}
use Rattle.line.proofs.CountLaws.{count_same, count_none, count_change}
use Rattle.refusal.proofs.VerdictLaws.{both_accepted}
use Rattle.layout.specs.Layout.{tables_wanted, ballot}
use Rattle.layout.specs.Chain.{reached}
use Rattle.judgement.specs.Judgement.{record_verdict, records_verdict}
use Rattle.reader.specs.Reading.{place_of, filled}
use Rattle.reader.proofs.PlaceLaws.{place_inside}
use Rattle.reader.proofs.TableLaws.{judged_place, places_apart, filled_length, filled_else}
use Rattle.normal_form.specs.Normal.{speaking}

-- the byte at the place p is not silence
unfoldable pub loud : List ℕ → ℕ → Bool
loud table p = not (eqb (get_or table p 0) silence)

pub loud_is : (table : List ℕ) (p v : ℕ) → get_or table p 0 ≡ v → loud table p ≡ not (eqb v silence)
unfolding loud
loud_is table p v e = rw e

module _ (s : List ℕ) where
  -- m accepted records fill as many places as have a ballot other than silence
  pub filled_loud : (m : ℕ) → records_verdict s m ≡ no_cause
      → count (tables_wanted s) (loud (filled s m)) ≡ count m (speaking s)
  unfolding filled records_verdict count speaking
  filled_loud zero v =
      let n = tables_wanted s in
      count_same n (loud (filled s 0)) (λ p. false) (λ p l. loud_is (filled s 0) p 255 (get_or-replicate {A = ℕ} n p 255 0 l)) ∙ count_none n
  filled_loud (suc m) v =
      let n = tables_wanted s in
      let x = place_of s (reached s m) in
      let b = ballot s (reached s m) in
      let (before, here) = both_accepted (records_verdict s m) (record_verdict s m) v in
      let inside = place_inside s (reached s m) (judged_place s m here) in
      let free : loud (filled s m) x ≡ false =
      loud_is (filled s m) x 255 (filled_else s m x inside (λ a l. places_apart s (suc m) a m v l (omega arith))) in
      let long : x < length (filled s m) = rw filled_length inside in
      let there : loud (set (filled s m) x b) x ≡ not (eqb b silence) = loud_is (set (filled s m) x b) x b (get_or-set_same (filled s m) x b 0 long) in
      let c = count_change n x (loud (filled s m)) (loud (set (filled s m) x b)) inside free
      (λ p l ne. loud_is (set (filled s m) x b) p (get_or (filled s m) p 0) (get_or-set_other (filled s m) x p b 0 ne) ∙ sym (loud_is (filled s m) p _ refl)) in
      c ∙ rw (there, filled_loud m before)
