-- Laws of a bit's outcomes added to those below: the bytes put, station by station, and that they are those of one bit more. Assumes nothing.
use Prim.Native.Nat.{ℕ, zero, suc, ◌+◌, ◌-◌, ◌*◌, ◌/◌, ◌%◌, ◌^◌, ◌≤◌, ◌<◌}
use mathlib.Core.Path.{◌≡◌, refl, sym, ap, ◌∙◌}
use mathlib.Core.Logic.{◌≢◌}
use mathlib.Core.List.{List, [], ◌∷◌}
use native.Mathlib.Omega.{arith}
use native.Mathlib.Nat.{add-zero, mul_assoc, mul-zero, mul-suc}
use lib.ListN.{length, get_or, take, drop, length-drop}
use lib.Seq.{ext_get_or}
use lib.Pow.{pow-add}
use lib.Dec.{ltb}
use mathlib.Core.Bool.{Bool, true, false}
use Rattle.std.specs.Prelude.{if◌then◌else◌, nat_lt, min, max}
use Rattle.std.proofs.lemmas.Bool.Decides.{nat_tests}
use borrow.Author.Tests.{ltb-false}
use borrow.Author.Tests.{eq-eqb, ne_eqb}
use Rattle.line.specs.Line.{outcome_size}
use Rattle.line.specs.Writing.{over, Each}
use Rattle.line.proofs.WritingLaws.{over_length, over_after, over_on, front_at, spliced, over_part}
use Rattle.broadcast.specs.Station.{at}
use Rattle.broadcast.specs.Bytes.{pick}
use Rattle.broadcast.proofs.BytesLaws.{length_tabulate, get_d_tabulate}
use Rattle.number.specs.Digits.{smaller, either, larger}
use Rattle.recipe.specs.Loops.{Alike}
use Rattle.std.specs.Simd.{first_chunks}
use Rattle.std.proofs.Common.{lit<}
use lib.Seq.{get_or-take, get_or-drop, drop-drop, length-take-le}
use Rattle.recipe.specs.Gathered.{with_bit, joined, added_byte, added}

-- ---- a number with one bit more

-- the bit is shifted in a byte, and leaves one of a bit from 8 on
pub bit_in_byte : (b d m s : ℕ) → m < 256 → s ≡ (if nat_lt b 8 then d * 2 ^ b % 256 else 0) → (m + s) % 256 ≡ with_bit b d m
unfolding with_bit
bit_in_byte b d m s l e = go (ltb b 8) refl
  where
    go : (c : Bool) → ltb b 8 ≡ c → (m + s) % 256 ≡ (m + d * 2 ^ b) % 256
    go true q = rw (e, q) (omega arith)
    go false q =
        let h = ltb-false b 8 q in
        let p : 2 ^ b ≡ 2 ^ (b - 8) * 256 = ap (λ (k : ℕ). 2 ^ k) (omega arith) ∙ pow-add 2 (b - 8) 8 in
        let r : d * 2 ^ b ≡ d * 2 ^ (b - 8) * 256 = rw (p, mul_assoc) in
        rw (e, q, r) (omega arith)

-- ---- the smaller and the larger of two

smaller_is : (a b : ℕ) → min a b ≡ smaller a b
unfolding smaller
smaller_is a b = grind (arith, nat_tests)

larger_is : (a b : ℕ) → max a b ≡ larger a b
unfolding larger
larger_is a b = grind (arith, nat_tests)

-- ---- one station

module _ (b : ℕ) (part below : List ℕ) where
  pub station_left : get_or below 1 0 ≡ 255 → Each 4 below (joined b part below 0)
  unfolding Each joined at
  station_left e d h = let z : outcome_size * 0 + d ≡ d = omega arith in rw (eq-eqb _ _ e, z)

  pub station_joined : get_or below 1 0 ≢ 255 → (value grade flag garbled : ℕ)
      → value ≡ with_bit b (get_or part 0 0) (get_or below 0 0) → grade ≡ min (get_or part 1 0) (get_or below 1 0)
      → flag ≡ either (get_or part 2 0) (get_or below 2 0) → garbled ≡ max (get_or part 3 0) (get_or below 3 0)
      → Each 4 (value ∷ grade ∷ flag ∷ garbled ∷ []) (joined b part below 0)
  unfolding Each joined pick at
  station_joined good value grade flag garbled v g f c zero h = rw (ne_eqb _ _ good) v
  station_joined good value grade flag garbled v g f c (suc zero) h = rw (ne_eqb _ _ good) (g ∙ smaller_is _ _)
  station_joined good value grade flag garbled v g f c (suc (suc zero)) h = rw (ne_eqb _ _ good) f
  station_joined good value grade flag garbled v g f c (suc (suc (suc zero))) h = rw (ne_eqb _ _ good) (c ∙ larger_is _ _)
  station_joined good value grade flag garbled v g f c (suc (suc (suc (suc d)))) h = absurd (omega arith)

-- the four bytes of a station alone
four_at : (i : ℕ) (l : List ℕ) (d : ℕ) → d < 4 → get_or (take 4 (drop (outcome_size * i) l)) d 0 ≡ get_or l (outcome_size * i + d) 0
four_at i l d h = get_or-take 4 (drop (outcome_size * i) l) d 0 h ∙ get_or-drop (outcome_size * i) l d 0

joined_alone : (b : ℕ) (part below : List ℕ) (i d : ℕ) → d < 4
    → joined b (take 4 (drop (outcome_size * i) part)) (take 4 (drop (outcome_size * i) below)) 0 d ≡ joined b part below i d
unfolding joined at
joined_alone b part below i d h =
    let z : outcome_size * 0 + d ≡ d = omega arith in
    rw (z, four_at i part 0 (lit< tt), four_at i part 1 (lit< tt), four_at i part 2 (lit< tt), four_at i part 3 (lit< tt), four_at i below 0 (lit< tt), four_at i below 1 (lit< tt), four_at i below 2 (lit< tt), four_at i below 3 (lit< tt), four_at i below d h, add-zero (outcome_size * i))

chunk_at : (n k : ℕ) (l : List ℕ) (i : ℕ) → i < k → get_or (first_chunks n k l) i [] ≡ take n (drop (n * i) l)
chunk_at n zero l i h = absurd (omega arith)
chunk_at n (suc k) l zero h = rw mul-zero
chunk_at n (suc k) l (suc i) h =
    let e : n + n * i ≡ n * suc i = omega (arith, mul-suc n i) in
    chunk_at n k (drop n l) i (omega arith) ∙ rw (drop-drop, e)

-- ---- all stations

module _ (b : ℕ) (part below : List ℕ) where
  -- a station reads what the writing before it left alone
  joined_later : (i : ℕ) (l : List ℕ) → l ≡ over below 0 (outcome_size * i) (added_byte b part below)
      → (d : ℕ) → d < 4 → joined b part l i d ≡ added_byte b part below (outcome_size * i + d)
  unfolding added_byte joined at
  joined_later i l e d h =
      let m : (outcome_size * i + d) % outcome_size ≡ d = omega arith in
      let q : (outcome_size * i + d) / outcome_size ≡ i = omega arith in
      let k : (c : ℕ) → outcome_size * i ≤ c → get_or l c 0 ≡ get_or below c 0 = λ (c : ℕ) (u : outcome_size * i ≤ c). rw e (over_after below 0 _ (outcome_size * i) c (omega arith)) in
      rw (m, q, k (outcome_size * i) (omega arith), k (outcome_size * i + 1) (omega arith), k (outcome_size * i + 2) (omega arith), k (outcome_size * i + 3) (omega arith), k (outcome_size * i + d) (omega arith))

  from_front : (i : ℕ) (l : List ℕ) (F : ℕ → ℕ) → over l (0 + outcome_size * i) 4 F ≡ over l (outcome_size * i) 4 F
  from_front i l F = let z : 0 + outcome_size * i ≡ outcome_size * i = omega arith in rw z

  -- a station is given alone, in its place in the part's chunks and in the outcomes so far
  pub station_turn : Alike part below → (i : ℕ) → i < length below / outcome_size → (l new : List ℕ) (k : ℕ) → l ≡ over below 0 (outcome_size * i) (added_byte b part below)
      → k ≡ 4 → length new ≡ length (take k (drop (outcome_size * i) l))
      → Each 4 new (joined b (get_or (first_chunks 4 (length part / 4) part) i []) (take k (drop (outcome_size * i) l)) 0)
      → spliced l new (outcome_size * i) k ≡ over below 0 (outcome_size * (i + 1)) (added_byte b part below)
  unfolding Each
  station_turn alike i h l new k e q size each =
      let long : length l ≡ length below = ap length e ∙ over_length below 0 (added_byte b part below) (outcome_size * i) in
      let room : outcome_size * i + 4 ≤ length l = omega arith in
      let its_size : length new ≡ 4 = size ∙ rw q (length-take-le 4 (drop (outcome_size * i) l) (rw length-drop (omega arith))) in
      let its_part = chunk_at 4 (length part / 4) part i (rw alike.part_size h) in
      let its_bytes : (d : ℕ) → d < 4 → get_or new d 0 ≡ joined b part l i d
      = λ (d : ℕ) (u : d < 4). (rw (q, its_part) at each) d u ∙ joined_alone b part l i d u in
      let z : outcome_size * (i + 1) ≡ outcome_size * i + 4 = omega arith in
      rw (q, z)
      (over_part l new (outcome_size * i) 4 room its_size (joined b part l i) its_bytes
      ∙ ap (λ (k : List ℕ). over k (outcome_size * i) 4 (joined b part l i)) e
      ∙ sym (from_front i _ _)
      ∙ over_on below 0 (outcome_size * i) (added_byte b part below) (joined b part l i) 4 (joined_later i l e))

  pub all_added : (m : ℕ) → length below ≡ outcome_size * m → over below 0 (outcome_size * m) (added_byte b part below) ≡ added b part below
  unfolding added
  all_added m e =
      let F = added_byte b part below in
      let size : length (over below 0 (outcome_size * m) F) ≡ length below = over_length below 0 F (outcome_size * m) in
      ext_get_or 0 _ _ (size ∙ sym (length_tabulate (length below) F))
      (λ k h.
      let u : k < length below = rw size at h in
      front_at below F (outcome_size * m) k (omega (arith, e)) (omega (arith, e)) ∙ sym (get_d_tabulate (length below) F k u))
