-- Laws of what is found, sender by sender. Assumes nothing.
use Prim.Native.Nat.{ℕ, zero, suc, ◌+◌, ◌<◌, max}
use mathlib.Core.Path.{◌≡◌, refl, sym, ap, ◌∙◌}
use mathlib.Core.Bool.{Bool, true, false, not, ◌&&◌, ◌||◌}
use mathlib.Core.List.{List}
use native.Mathlib.Omega.{arith}
use native.Mathlib.Numerals.{add-one}
use lib.Dec.{ltb, eqb}
use lib.ListN.{length, get_or, replicate}
use borrow.Author.Tests.{le-ltb}
use lib.Pow.{pow_pos}
use Rattle.std.specs.Prelude.{if◌then◌else◌}
use Rattle.std.proofs.lemmas.Bool.Decides.{nat_tests}
use Rattle.line.specs.Line.{has_round}
use Rattle.line.specs.Marks.{marked}
use Rattle.line.specs.Ballot.{blank, silence, is_garbled}
use Rattle.line.specs.Writing.{Each}
use Rattle.line.proofs.CountLaws.{count_same, count_none}
use Rattle.line.proofs.LineLaws.{round_means}
use Rattle.line.proofs.BallotLaws.{garbled_sender, garbled_first, garbled_second, garbled_king}
use Rattle.line.proofs.MarksLaws.{marked_above}
use Rattle.line.proofs.WritingLaws.{zeros}
use Rattle.broadcast.specs.Broadcast.{speaks}
use Rattle.broadcast.specs.Broadcast as broadcast
use Rattle.broadcast.specs.Garbled.{reading, garbled_ballots, some_garbled}
use Rattle.broadcast.proofs.RowLaws.{garbled_none, garbled_next}
use Rattle.column.specs.Column.{column, sent_by}
use Rattle.column.proofs.ColumnLaws.{sent_there}
use Rattle.step.specs.declared.Part.{Part}
use Rattle.step.specs.declared.Part.TheVariants.{Sender, First, Second, King}
use Rattle.step.specs.Part.{as_part, of_part}
use Rattle.step.specs.Noted.{noted}
use Rattle.step.proofs.StepLaws.{speaks_as, reading_as, noted_low}
use Rattle.garbled.specs.Found.{from, some_of, found, above, but_silence}

-- ---- by the highest byte

nothing_above : (bound : ℕ) → ltb bound 0 ≡ false
nothing_above bound = le-ltb bound 0 (omega arith)

beyond : (bound b : ℕ) → ltb bound (but_silence b) ≡ (ltb bound b && not (eqb b silence))
unfolding but_silence
beyond bound b = grind (arith, nat_tests)

max_above : (bound a b : ℕ) → ltb bound (max a b) ≡ (ltb bound a || ltb bound b)
max_above bound a b = grind (arith, nat_tests)

-- a byte is above the bound, silence as 0, exactly if its reading is garbled
noise_is : (p : Part) (b : ℕ) → ltb (above p) (but_silence b) ≡ is_garbled (reading (of_part p) b)
unfolding above reading
noise_is Sender b = beyond 1 b ∙ sym (garbled_sender b)
noise_is First b = beyond 1 b ∙ sym (garbled_first b)
noise_is Second b = beyond blank b ∙ sym (garbled_second b)
noise_is (King p) b = beyond 1 b ∙ sym (garbled_king b)

-- one byte more, of a sender who is looked at or not
one_more : (p : Part) (c : Bool) (top b k : ℕ) → ltb (above p) top ≡ ltb 0 k
    → ltb (above p) (if c then max top (but_silence b) else top) ≡ ltb 0 ((if c && is_garbled (reading (of_part p) b) then 1 else 0) + k)
one_more p true top b k e =
    max_above (above p) top (but_silence b) ∙ rw (e, noise_is p b) (counted (is_garbled (reading (of_part p) b)))
  where
    counted : (g : Bool) → (ltb 0 k || g) ≡ ltb 0 ((if g then 1 else 0) + k)
    counted true = grind (arith, nat_tests)
    counted false = grind (arith, nat_tests)
one_more p false top b k e = grind (arith, nat_tests)

module _ (n senders sender : ℕ) (p : Part) (bytes : List ℕ) (start : ℕ) where
  -- of the first m stations' bytes for j that are looked at, the highest but for silence
  unfoldable pub highest : ℕ → ℕ → ℕ
  highest zero j = 0
  highest (suc m) j = if from senders sender p m then max (highest m j) (but_silence (column bytes start n j m)) else highest m j

  pub none_of : Each n (replicate 32 0) (highest 0)
  unfolding Each highest
  none_of j h = zeros 32 j

  -- one sender more, who is looked at
  pub row_added : (m : ℕ) (l l' row : List ℕ) → has_round n start (length bytes) ≡ true → m < n → from senders sender p m ≡ true
      → Each n l (highest m) → Each n row (sent_by n bytes start m) → Each 32 l' (λ j. max (get_or l j 0) (but_silence (get_or row j 0)))
      → Each n l' (highest (m + 1))
  unfolding Each highest
  row_added m l l' row room k e before sent now j h =
      now j (omega (arith, (round_means n start (length bytes) room).0))
      ∙ rw (add-one m, e, before j h, sent j h, sent_there n bytes start m k room j)

  -- .. or not
  pub row_passed : (m : ℕ) (l : List ℕ) → from senders sender p m ≡ false → Each n l (highest m) → Each n l (highest (m + 1))
  unfolding Each highest
  row_passed m l e before j h = before j h ∙ rw (add-one m, e)

  -- the highest of the first m is above the bound exactly if one of them is garbled
  highest_tells : (m j : ℕ) → ltb (above p) (highest m j)
      ≡ ltb 0 (garbled_ballots m (from senders sender p) (of_part p) (column bytes start n j))
  unfolding highest
  highest_tells zero j = nothing_above (above p) ∙ rw (garbled_none (from senders sender p) (of_part p) (column bytes start n j))
  highest_tells (suc m) j =
      rw (← add-one m, garbled_next (from senders sender p) (of_part p) (column bytes start n j) m)
      (one_more p (from senders sender p m) (highest m j) (column bytes start n j m) _ (highest_tells m j))

  pub found_there : has_round n start (length bytes) ≡ true → (j : ℕ) → found n senders sender p bytes start j ≡ some_of n senders sender p bytes start n j
  unfolding found
  found_there room j = rw room

  -- of all n
  pub found_all : (l l' : List ℕ) (bound : ℕ) → has_round n start (length bytes) ≡ true → bound ≡ above p → Each n l (highest n)
      → Each 32 l' (λ j. if ltb bound (get_or l j 0) then 1 else 0) → Each n l' (found n senders sender p bytes start)
  unfolding Each some_of
  found_all l l' bound room e each now j h =
      now j (omega (arith, (round_means n start (length bytes) room).0)) ∙ (rw (e, each j h, highest_tells n j)) ∙ sym (found_there room j)

-- ---- without room, and with nobody to look at

pub found_not : (n senders sender : ℕ) (p : Part) (bytes : List ℕ) (start : ℕ) → has_round n start (length bytes) ≡ false
    → Each n (replicate 32 0) (found n senders sender p bytes start)
unfolding found Each
found_not n senders sender p bytes start h j k = rw h (zeros 32 j)

some_nobody : (n sender : ℕ) (p : Part) (bytes : List ℕ) (start m j : ℕ) → some_of n 0 sender p bytes start m j ≡ 0
unfolding some_of garbled_ballots from
some_nobody n sender p bytes start m j =
    let none = count_same m (λ i. (marked 0 i && speaks sender (of_part p) i) && is_garbled (reading (of_part p) (column bytes start n j i))) (λ i. false)
    (λ i l. rw (marked_above 0 i (pow_pos i))) ∙ count_none m in
    rw none

pub found_nobody : (n sender : ℕ) (p : Part) (bytes : List ℕ) (start : ℕ) → Each n (replicate 32 0) (found n 0 sender p bytes start)
unfolding found Each
found_nobody n sender p bytes start j k = zeros 32 j ∙ sym (go (has_round n start (length bytes)))
  where
    go : (b : Bool) → (if b then some_of n 0 sender p bytes start n j else 0) ≡ 0
    go true = some_nobody n sender p bytes start n j
    go false = refl

-- ---- beside what a station counts

-- where those who are not looked at have no garbled ballot, it is found exactly if the row has one
module _ (n senders sender : ℕ) (q : broadcast.Part) (bytes : List ℕ) (start j : ℕ) (row : ℕ → ℕ) (row_is : (k : ℕ) → k < n → column bytes start n j k ≡ row k)
    (quiet : (k : ℕ) → k < n → marked senders k ≡ false → speaks sender q k ≡ true → is_garbled (reading q (row k)) ≡ false) where
  same_ballot : (k : ℕ) → k < n
      → ((marked senders k && speaks sender (of_part (as_part q)) k) && is_garbled (reading (of_part (as_part q)) (column bytes start n j k)))
      ≡ (speaks sender q k && is_garbled (reading q (row k)))
  same_ballot k h =
      rw (speaks_as sender k q, reading_as (column bytes start n j k) q, row_is k h) (go (marked senders k) (speaks sender q k) refl refl)
    where
      go : (a b : Bool) → marked senders k ≡ a → speaks sender q k ≡ b
          → ((a && b) && is_garbled (reading q (row k))) ≡ (b && is_garbled (reading q (row k)))
      go true b e f = refl
      go false true e f = sym (quiet k h e f)
      go false false e f = refl

  pub found_row : has_round n start (length bytes) ≡ true → found n senders sender (as_part q) bytes start j ≡ (if some_garbled n sender q row then 1 else 0)
  unfolding some_of some_garbled garbled_ballots from
  found_row room =
      found_there n senders sender (as_part q) bytes start room j
      ∙ ap (λ (k : ℕ). if ltb 0 k then 1 else 0) (count_same n _ (λ k. speaks sender q k && is_garbled (reading q (row k))) same_ballot)

-- and then a station's count is what it counts, below 255
pub noted_row : (garbled found : ℕ) (b : Bool) → garbled < 255 → found ≡ (if b then 1 else 0) → noted garbled found ≡ (if b then 1 else 0) + garbled
noted_row garbled found b h e = noted_low garbled found h ∙ rw e (go b)
  where
    go : (c : Bool) → (if ltb 0 (if c then 1 else 0) then 1 else 0) + garbled ≡ (if c then 1 else 0) + garbled
    go true = refl
    go false = refl
