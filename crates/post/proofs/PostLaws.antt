-- Laws of a round's ballots in the log. Assumes nothing.
use Prim.Native.Nat.{ℕ, zero, suc, ◌+◌, ◌-◌, ◌*◌, ◌/◌, ◌%◌, ◌≤◌, ◌<◌}
use mathlib.Core.Path.{◌≡◌, refl, sym, ap, ◌∙◌}
use mathlib.Core.Bool.{Bool, true, false, ◌&&◌}
use mathlib.Core.List.{List}
use native.Mathlib.Omega.{arith}
use mathlib.Core.Logic.{◌⊎◌, inl, inr}
use native.Mathlib.Nat.{zero-mul, mul-zero, add-mul, div-lt_iff_lt-mul, div-add-mod', mod-lt, eq-or-lt_of_le}
use lib.Arith.{digits_div, digits_lt}
use lib.ListN.{length, get_or, take, drop, length-drop}
use lib.Seq.{length-take-le, get_or-take, get_or-drop}
use Rattle.std.specs.Prelude.{if◌then◌else◌}
use Rattle.line.specs.Line.{has_round}
use Rattle.line.specs.Marks.{marked}
use Rattle.line.specs.Writing.{over}
use Rattle.line.proofs.LineLaws.{next_row, round_means}
use Rattle.line.proofs.WritingLaws.{spliced, over_part, over_on, over_same, over_at, over_before, over_length}
use Rattle.line.proofs.CountLaws.{if_true, if_false}
use Rattle.post.specs.Posted.{ballot_at, posted, same, from_table, Alike}

-- ---- a part of the table copied to the log, as the code lends both

pub over_copied : (l table part : List ℕ) (a k n : ℕ) → k ≡ n → a + n ≤ length l → a + n ≤ length table
    → part ≡ take k (drop a table) → spliced l part a k ≡ over l a n (from_table table a)
unfolding from_table
over_copied l table part a k n e room there q =
    let same : part ≡ take n (drop a table) = rw e at q in
    let size : length part ≡ n = rw same (length-take-le n (drop a table) (rw (length-drop a table) (omega arith))) in
    rw e
    (over_part l part a n room size _
    (λ j h. rw same (get_or-take n (drop a table) j 0 h ∙ get_or-drop a table j 0)))

-- ---- good stations that say the same

module _ (said : List ℕ) (marks i : ℕ) where
  pub alike_none : Alike said marks i (i + 1)
  unfolding Alike
  alike_none k a b = absurd (omega arith)

  pub alike_more : (k : ℕ) → Alike said marks i k → marked marks k ≡ false → get_or said k 0 ≡ get_or said i 0 → Alike said marks i (k + 1)
  unfolding Alike
  alike_more k before good same m a b = go (eq-or-lt_of_le (let h : m ≤ k = omega arith in h))
    where
      go : (m ≡ k) ⊎ (m < k) → (marked marks m ≡ false) × (get_or said m 0 ≡ get_or said i 0)
      go (inl e) = rw e (good, same)
      go (inr l) = before m a l

-- ---- the ballots

module _ (said table : List ℕ) (marks start n : ℕ) where
  -- sender m's byte to j
  ballot_from : (m j : ℕ) → j < n
      → ballot_at said table marks start n (m * n + j) ≡ (if marked marks m then get_or table (start + m * n + j) 0 else get_or said m 0)
  unfolding ballot_at
  ballot_from m j h = let e : start + m * n + j ≡ start + (m * n + j) = omega arith in rw (digits_div m h, e)

  -- one bad sender more
  pub bad_turn : (m : ℕ) (l l' l'' : List ℕ) → marked marks m ≡ true → l' ≡ over l start (m * n) (ballot_at said table marks start n)
      → l'' ≡ over l' (start + m * n) n (from_table table (start + m * n)) → l'' ≡ over l start ((m + 1) * n) (ballot_at said table marks start n)
  unfolding from_table
  bad_turn m l l' l'' bad e q =
      rw (next_row m n, q, e) (over_on l start (m * n) _ _ n (λ j h. sym (ballot_from m j h ∙ if_true _ _ bad)))

  -- the good senders from m to before r more, who say the same
  module _ (m r : ℕ) (h : m < r) (good : marked marks m ≡ false) (alike : Alike said marks m r) where
    same_byte : (k : ℕ) → m ≤ k → k < r → (marked marks k ≡ false) × (get_or said k 0 ≡ get_or said m 0)
    unfolding Alike
    same_byte k a b = go (eq-or-lt_of_le a)
      where
        go : (m ≡ k) ⊎ (m < k) → (marked marks k ≡ false) × (get_or said k 0 ≡ get_or said m 0)
        go (inl e) = rw (sym e) (good, refl)
        go (inr l) = alike k l b

    run_byte : (j : ℕ) → j < (r - m) * n → get_or said m 0 ≡ ballot_at said table marks start n (m * n + j)
    run_byte j l =
        let pos : 0 < n = positive n (r - m) j l in
        let q : j / n < r - m = (div-lt_iff_lt-mul pos).1 l in
        let d : (m + j / n) * n + j % n ≡ m * n + j = omega (arith, add-mul m (j / n) n, div-add-mod' j n) in
        let (g, s) = same_byte (m + j / n) (omega arith) (omega arith) in
        sym (ap (ballot_at said table marks start n) (sym d) ∙ ballot_from (m + j / n) (j % n) (mod-lt j pos) ∙ if_false _ _ g ∙ s)
      where
        positive : (n k j : ℕ) → j < k * n → 0 < n
        positive zero k j b = absurd (omega (arith, mul-zero k))
        positive (suc n) k j b = omega arith

    pub run_turn : (l l' l'' : List ℕ) → l' ≡ over l start (m * n) (ballot_at said table marks start n)
        → l'' ≡ over l' (start + m * n) ((r - m) * n) (same (get_or said m 0)) → l'' ≡ over l start (r * n) (ballot_at said table marks start n)
    unfolding same
    run_turn l l' l'' e q =
        let d : m * n + (r - m) * n ≡ r * n = rw (← add-mul m (r - m) n) (ap (λ (k : ℕ). k * n) (let s : m + (r - m) ≡ r = omega arith in s)) in
        rw (← d, q, e) (over_on l start (m * n) _ _ ((r - m) * n) run_byte)

  -- ---- a whole round

  module _ (log : List ℕ) where
    pub posted_length : length (posted n marks said table log start) ≡ length log
    unfolding posted
    posted_length = go (has_round n start (length log) && has_round n start (length table))
      where
        go : (b : Bool) → length (if b then over log start (n * n) (ballot_at said table marks start n) else log) ≡ length log
        go true = over_length log start _ (n * n)
        go false = refl

    pub posted_before : (k : ℕ) → k < start → get_or (posted n marks said table log start) k 0 ≡ get_or log k 0
    unfolding posted
    posted_before k h = go (has_round n start (length log) && has_round n start (length table))
      where
        go : (b : Bool) → get_or (if b then over log start (n * n) (ballot_at said table marks start n) else log) k 0 ≡ get_or log k 0
        go true = over_before log start _ (n * n) k h
        go false = refl

    -- without room nothing is posted
    pub posted_not : has_round n start (length log) ≡ false → posted n marks said table log start ≡ log
    unfolding posted
    posted_not a = rw a

    pub posted_not_table : has_round n start (length table) ≡ false → posted n marks said table log start ≡ log
    unfolding posted
    posted_not_table a = rw a (go (has_round n start (length log)))
      where
        go : (b : Bool) → (if b && false then over log start (n * n) (ballot_at said table marks start n) else log) ≡ log
        go true = refl
        go false = refl

    module _ (a : has_round n start (length log) ≡ true) (b : has_round n start (length table) ≡ true) where
      pub posted_is : posted n marks said table log start ≡ over log start (n * n) (ballot_at said table marks start n)
      unfolding posted
      posted_is = rw (a, b)

      -- what i sends to j stands in its place
      pub posted_at : (i j : ℕ) → i < n → j < n
          → get_or (posted n marks said table log start) (start + i * n + j) 0
          ≡ (if marked marks i then get_or table (start + i * n + j) 0 else get_or said i 0)
      posted_at i j hi hj =
          let e : start + (i * n + j) ≡ start + i * n + j = omega arith in
          let k : i * n + j < n * n = digits_lt hi hj in
          rw posted_is ((rw e at (over_at log start (ballot_at said table marks start n) (n * n) (i * n + j) k (round_means n start (length log) a).1)) ∙ ballot_from i j hj)

-- who says the same posts the same
pub posted_as : (n marks : ℕ) (said said' table log : List ℕ) (start : ℕ) → ((i : ℕ) → i < n → get_or said i 0 ≡ get_or said' i 0)
    → posted n marks said table log start ≡ posted n marks said' table log start
unfolding posted ballot_at
posted_as n marks said said' table log start h =
    ap (λ (l : List ℕ). if has_round n start (length log) && has_round n start (length table) then l else log)
    (over_same log start _ _ (n * n) (λ k b. ap (λ (q : ℕ). if marked marks (k / n) then get_or table (start + k) 0 else q) (h (k / n) ((div-lt_iff_lt-mul (positive n k b)).1 b))))
  where
    positive : (n k : ℕ) → k < n * n → 0 < n
    positive zero k b = absurd (omega (arith, zero-mul zero))
    positive (suc n) k b = omega arith
