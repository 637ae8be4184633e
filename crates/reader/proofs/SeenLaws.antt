-- Laws of the places seen: they tell whether an earlier record of the chain has the same round, from, to and bit. Assumes nothing.
use Prim.Native.Nat.{ℕ, zero, suc, ◌+◌, ◌/◌, ◌%◌, ◌<◌}
use mathlib.Core.Path.{◌≡◌, refl, sym, ◌∙◌}
use mathlib.Core.Bool.{Bool, true, false}
use mathlib.Core.Logic.{⊎_elim}
use mathlib.Core.List.{List}
use native.Mathlib.Nat.{zero-add}
use native.Mathlib.Omega.{arith}
use lib.Dec.{ltb}
use lib.Pow.{pow_pos}
use borrow.Author.Tests.{lt-ltb}
use lib.ListN.{length, length-set, length-replicate, get_or-replicate}
use Rattle.line.proofs.CountLaws.{same_or_not}
use Rattle.line.specs.Width.{largest_tables}
use Rattle.line.specs.Count.{count}
use Rattle.line.proofs.MarksLaws.{marked_above}
use Rattle.refusal.specs.Cause.{refused_if, ◌or_else◌, no_cause}
use Rattle.refusal.specs.declared.cause.Cause.TheVariants.{RecordForm, Duplicate}
use Rattle.refusal.proofs.VerdictLaws.{refused_true, both_accepted}
use Rattle.layout.specs.Layout.{header}
use Rattle.layout.specs.Chain.{reached}
use Rattle.judgement.specs.Judgement.{misplaced, record_form, unmarked_sender, same_place, taken_before, duplicate, record_verdict, records_verdict}
use Rattle.reader.specs.Reading.{place_of}
use Rattle.reader.specs.Loops.{SoundHeader, unseen, is_seen, with_place, seen, looked}
use Rattle.reader.proofs.BitLaws.{seen_same, seen_other}
use Rattle.reader.proofs.PlaceLaws.{InPlace, in_place, place_in_largest, place_tells, same_tells}
use Rattle.reader.proofs.TableLaws.{judged_place}

pub with_length : (l : List ℕ) (p : ℕ) → length (with_place l p) ≡ length l
unfolding with_place
with_length l p = simp length-set

-- no place is seen at first
unseen_none : (p : ℕ) → p < largest_tables → is_seen unseen p ≡ false
unfolding is_seen unseen
unseen_none p h = let l : p / 32 < 9216 = omega arith in rw (get_or-replicate {A = ℕ} 9216 (p / 32) 0 0 l) (marked_above 0 (p % 32) (pow_pos (p % 32)))

module _ (s : List ℕ) where
  pub seen_length : (m : ℕ) → length (seen s m) ≡ 9216
  unfolding seen unseen
  seen_length zero = length-replicate {A = ℕ} 9216 0
  seen_length (suc m) = with_length (seen s m) (place_of s (reached s m)) ∙ seen_length m

  -- one record more of the chain, whose place is that of the record with index j or is not
  seen_step : (m j : ℕ) → place_of s j < largest_tables
      → (place_of s (reached s m) ≡ place_of s j → same_place s (reached s m) j ≡ true)
      → is_seen (seen s m) (place_of s j) ≡ ltb 0 (count m (λ a. same_place s (reached s a) j))
      → is_seen (seen s (suc m)) (place_of s j) ≡ ltb 0 (count (suc m) (λ a. same_place s (reached s a) j))
  unfolding seen count
  seen_step m j below tells before =
      let p = place_of s (reached s m) in
      let q = place_of s j in
      let inside : q / 32 < length (seen s m) = rw seen_length (omega arith) in
      ⊎_elim
      (λ (e : p ≡ q). rw (e, seen_same (seen s m) q inside, tells e) (sym (lt-ltb 0 (1 + count m (λ a. same_place s (reached s a) j)) (omega arith))))
      (λ (ne : p ≡ q → ⊥).
      let other : same_place s (reached s m) j ≡ false = not_same (same_place s (reached s m) j) refl ne in
      rw (seen_other (seen s m) p q inside ne, other, zero-add) before)
      (same_or_not p q)
    where
      not_same : (b : Bool) → same_place s (reached s m) j ≡ b → (place_of s (reached s m) ≡ place_of s j → ⊥) → b ≡ false
      not_same true e n = absurd (n (same_tells s (reached s m) j e))
      not_same false e n = refl

  -- the place of a record with index j is seen exactly if an earlier one has the same round, from, to and bit
  pub seen_tells : (m j : ℕ) → records_verdict s m ≡ no_cause → InPlace s j → SoundHeader (header s)
      → is_seen (seen s m) (place_of s j) ≡ ltb 0 (count m (λ a. same_place s (reached s a) j))
  unfolding seen count records_verdict
  seen_tells zero j v p sound = rw (unseen_none (place_of s j) (place_in_largest s j p sound))
  seen_tells (suc m) j v p sound =
      let (before, here) = both_accepted (records_verdict s m) (record_verdict s m) v in
      seen_step m j (place_in_largest s j p sound) (place_tells s (reached s m) j (judged_place s m here) p) (seen_tells m j before p sound)

  -- so the record at position m is judged by the places seen as it is by the chain
  pub judged_by_seen : (m : ℕ) → records_verdict s m ≡ no_cause → SoundHeader (header s)
      → record_form s (reached s m) or_else unmarked_sender s (reached s m) or_else looked (seen s m) (place_of s (reached s m)) ≡ record_verdict s m
  unfolding record_verdict record_form looked duplicate taken_before
  judged_by_seen m v sound = go (misplaced s (reached s m)) refl
    where
      i : ℕ
      i = reached s m

      go : (b : Bool) → misplaced s i ≡ b
          → refused_if (misplaced s i) RecordForm or_else unmarked_sender s i or_else refused_if (is_seen (seen s m) (place_of s i)) Duplicate
          ≡ refused_if (misplaced s i) RecordForm or_else unmarked_sender s i or_else refused_if (ltb 0 (count m (λ a. same_place s (reached s a) i))) Duplicate
      go true e = rw (refused_true RecordForm e)
      go false e = rw (seen_tells m i v (in_place s i e) sound)
