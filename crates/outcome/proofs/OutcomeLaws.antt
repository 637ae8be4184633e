-- Which bytes of the outcomes are written, and that they are the stations' outcomes. Assumes nothing.
use Prim.Native.Nat.{ℕ, min, ◌/◌, ◌%◌, ◌≤◌, ◌<◌}
use mathlib.Core.Path.{◌≡◌, refl, sym, ◌∙◌}
use mathlib.Core.Bool.{Bool, true, false}
use native.Mathlib.Omega.{arith}
use mathlib.Core.List.{List, ◌++◌}
use lib.ListN.{length, get_or, take, drop}
use lib.Seq.{ext_get_or, length-take-le}
use Rattle.std.specs.Prelude.{if◌then◌else◌}
use native.Mathlib.Nat.{min-eq_left}
use Rattle.line.specs.Line.{outcome_size, outcomes_length, largest_outcomes}
use Rattle.line.specs.Marks.{marked}
use Rattle.line.specs.Writing.{Each, over}
use Rattle.line.proofs.WritingLaws.{over_length, front_at, over_part}
use Rattle.broadcast.specs.Exchange.{Setting, flag_of}
use Rattle.broadcast.specs.Bytes as bytes
use Rattle.broadcast.specs.Bytes.{tabulate, pick, outcome_bytes}
use Rattle.broadcast.specs.Guarantees.{Good}
use Rattle.broadcast.proofs.BytesLaws.{length_tabulate, get_d_tabulate, tabulate_same}
use Rattle.outcome.specs.Outcome.{outcome_byte, outcome_at, reach}

-- ---- how many bytes are written

-- a part that is lent up to there and filled
pub reach_filled : (l part : List ℕ) (F : ℕ → ℕ) (end k : ℕ) → end ≡ min (length l) largest_outcomes → length part ≡ length (take end l)
    → length part ≤ k → Each k part F → part ++ drop end l ≡ over l 0 (reach (length l)) F
unfolding Each reach
reach_filled l part F end k e long whole each =
    let within : end ≤ length l = omega arith in
    let size : length part ≡ end = long ∙ length-take-le end l within in
    rw (← e) (over_part l part 0 end (omega arith) size F (λ j h. each j (omega arith)))

-- all of a line's
pub reach_all : (size : ℕ) → size ≤ largest_outcomes → reach size ≡ size
unfolding reach
reach_all size h = min-eq_left h

-- ---- the bytes are the outcomes of the stations' values, grades and counts

-- a loop that fills a whole list leaves nothing else
front_whole : (l : List ℕ) (F : ℕ → ℕ) → over l 0 (length l) F ≡ tabulate (length l) F
front_whole l F =
    ext_get_or 0 _ _
    (over_length l 0 F (length l) ∙ sym (length_tabulate (length l) F))
    (λ k h. let b : k < length l = rw over_length at h in front_at l F (length l) k b (omega arith) ∙ sym (get_d_tabulate (length l) F k b))

module _ (S : Setting) (marks : ℕ) (value grade garbled : List ℕ) (most : S.n ≤ 32) (bad_is : (i : ℕ) → S.bad i ≡ marked marks i) (v g f c : ℕ → ℕ)
    (is : (i : ℕ) → Good S.n S.bad i → (get_or value i 0 ≡ v i) × (get_or grade i 0 ≡ g i) × (flag_of (g i) ≡ f i) × (get_or garbled i 0 ≡ c i)) where
  byte_is : (k : ℕ) → k < outcomes_length S.n → outcome_at value grade garbled marks k ≡ bytes.outcome_byte S v g f c k
  unfolding outcome_at outcome_byte bytes.outcome_byte
  byte_is k h = rw (← bad_is (k / outcome_size)) (go (k / outcome_size) (k % outcome_size) (S.bad (k / outcome_size)) refl (omega arith))
    where
      go : (i d : ℕ) (b : Bool) → S.bad i ≡ b → i < S.n
          → (if b then 255 else pick (get_or value i 0) (get_or grade i 0) (flag_of (get_or grade i 0)) (get_or garbled i 0) d)
          ≡ (if b then 255 else pick (v i) (g i) (f i) (c i) d)
      go i d true e l = refl
      go i d false e l = let (p, q, r, s) = is i (l, e) in rw (p, q, r, s)

  pub outcomes_made : (l : List ℕ) → length l ≡ outcomes_length S.n
      → over l 0 (reach (length l)) (outcome_at value grade garbled marks) ≡ outcome_bytes S v g f c
  unfolding outcome_bytes
  outcomes_made l size =
      rw (reach_all (length l) (omega arith)) (front_whole l (outcome_at value grade garbled marks)
      ∙ rw size (tabulate_same (outcomes_length S.n) _ _ (λ k h. byte_is k h)))
