-- Demand 2: single stations on the run's rows follow the run, and put together with the bad ones' bytes they make it. Assumes nothing.
use Prim.Native.Nat.{ℕ, zero, suc, ◌+◌, ◌-◌, ◌*◌, ◌/◌, ◌%◌, ◌≤◌, ◌<◌}
use mathlib.Core.Path.{◌≡◌, refl, sym, ap, ◌∙◌}
use mathlib.Core.Bool.{Bool, true, false}
use mathlib.Core.List.{List}
use mathlib.Core.Logic.{◌⊎◌, inl, inr}
use native.Mathlib.Omega.{arith}
use native.Mathlib.Numerals.{add-one}
use native.Mathlib.Nat.{div-add-mod', div-lt_iff_lt-mul, mod-lt, eq-or-lt_of_le}
use lib.ListN.{length, get_or}
use lib.Seq.{ext_get_or}
use Rattle.line.specs.Line.{Fits, from_0, rounds, place}
use Rattle.line.specs.Marks.{marked}
use Rattle.line.proofs.CountLaws.{if_true, count_same}
use Rattle.broadcast.specs.Exchange.{sends}
use Rattle.broadcast.specs.Broadcast.{value_of, final_grade, final_flag, part, said, sent}
use Rattle.broadcast.specs.Garbled.{received, garbled_in, garbled_rounds}
use Rattle.broadcast.specs.Station.{State, running, done, ballot, result, at, after}
use Rattle.broadcast.specs.Bytes.{setting, Run, setting_of, log, outcomes, setup, column}
use Rattle.broadcast.specs.Guarantees.{Good}
use Rattle.broadcast.specs.Theorems.{value_at, grade_at, flag_at, garbled_at, Follows, PutTogether, MakeRun}
use Rattle.broadcast.proofs.ExchangeLaws.{good_sends}
use Rattle.broadcast.proofs.BytesLaws.{sender_inside, kings_inside, log_size, log_at, column_at, good_value, good_grade, good_flag, good_count}
use Rattle.broadcast.proofs.RowLaws.{some_same}
use Rattle.broadcast.proofs.RoundLaws.{after_count}
use Rattle.broadcast.proofs.StationLaws.{Knows, knows_after, tells, is_running, is_done}

-- ---- bytes laid out like a table, from their places

-- the place of the round, sender and receiver that are read off k is k
place_back : (n k : ℕ) → place n (k / n / n + 1) (k / n % n) (k % n) ≡ k
unfolding place
place_back n k =
    let e : k / n / n + 1 - 1 ≡ k / n / n = omega arith in
    rw (e, div-add-mod' (k / n) n) (div-add-mod' k n)

-- bytes that agree at every place are the same list
same_bytes : (n R : ℕ) → 0 < n → (l l' : List ℕ) → length l ≡ R * n * n → length l' ≡ R * n * n
    → ((r i j : ℕ) → 1 ≤ r → r ≤ R → i < n → j < n → at l (place n r i j) ≡ at l' (place n r i j)) → l ≡ l'
unfolding at
same_bytes n R pos l l' s s' h = ext_get_or 0 l l' (s ∙ sym s') each
  where
    each : (k : ℕ) → k < length l → get_or l k 0 ≡ get_or l' k 0
    each k b =
        let c : k < R * n * n = rw s at b in
        let d : k / n / n < R = (div-lt_iff_lt-mul pos).1 ((div-lt_iff_lt-mul pos).1 c) in
        rw (place_back n k) at (h (k / n / n + 1) (k / n % n) (k % n) (omega arith) (omega arith) (mod-lt (k / n) pos) (mod-lt k pos))

module _ (R : Run) (fits : Fits R.n R.t R.T) (low : 1 ≤ R.sender) (high : R.sender ≤ R.n) where
  in_line : from_0 R.sender < (setting_of R).n
  in_line = sender_inside R low high

  few : (setting_of R).t < (setting_of R).n
  few = kings_inside R fits

  -- what is sent in the run
  s_sent : ℕ → ℕ → ℕ → ℕ
  s_sent = sent (setting_of R) (from_0 R.sender) R.value

  -- bytes that have the run's in rounds 1 to m
  abbrev Agree : List ℕ → ℕ → Type 0
  Agree bytes m = (r i j : ℕ) → 1 ≤ r → r ≤ m → i < R.n → j < R.n → at bytes (place R.n r i j) ≡ s_sent r i j

  -- ---- station j, opened with v, on its rows of such bytes
  module _ (j v : ℕ) (inside : j < R.n) (bytes : List ℕ) where
    its_state : ℕ → State
    its_state m = after (setup R j) v (column R.n bytes j) m

    knows : (m : ℕ) → m ≤ rounds R.t → Agree bytes m
        → Knows (setting_of R) (from_0 R.sender) R.value in_line few j v (suc m) (its_state m)
    unfolding its_state setup setting s_sent
    knows m l agree =
        knows_after (setting_of R) (from_0 R.sender) R.value in_line few j v (column R.n bytes j) m l
        (λ r a b i h. column_at R.n bytes j r i h ∙ agree r i j a b h inside)

    is_told : (m : ℕ) → m ≤ rounds R.t → Agree bytes m → (j ≡ from_0 R.sender → v ≡ R.value)
        → ballot (setup R j) (its_state m) ≡ said (setting_of R) (from_0 R.sender) R.value (suc m) j
    unfolding setup setting
    is_told m l agree opens =
        tells (setting_of R) (from_0 R.sender) R.value in_line few j v (suc m) (omega arith) opens (its_state m)
        (knows m l agree)

    runs : (m : ℕ) → m < rounds R.t → Agree bytes m → result (setup R j) (its_state m) ≡ running (suc m)
    unfolding setup setting
    runs m l agree =
        is_running (setting_of R) (from_0 R.sender) R.value in_line few j v (suc m) (its_state m) l
        (knows m (omega arith) agree)

    -- its count is the run's
    counts : Agree bytes (rounds R.t) → (its_state (rounds R.t)).garbled ≡ garbled_rounds (setting_of R) (from_0 R.sender) R.value j
    unfolding its_state setup setting s_sent garbled_rounds garbled_in received
    counts agree =
        after_count (setup R j) v (column R.n bytes j) (rounds R.t)
        ∙ count_same (rounds R.t) _ _ (λ m l.
        some_same R.n (from_0 R.sender) (part (suc m)) _ _ (λ i h _. column_at R.n bytes j (suc m) i h ∙ agree (suc m) i j (omega arith) l h inside))

    ends : marked R.marks j ≡ false → Agree bytes (rounds R.t)
        → result (setup R j) (its_state (rounds R.t))
        ≡ done (value_at (outcomes R) j) (grade_at (outcomes R) j) (flag_at (outcomes R) j) (garbled_at (outcomes R) j)
    unfolding setup setting outcomes
    ends good agree =
        let S = setting_of R in
        let y = value_of S (from_0 R.sender) R.value in
        let g = final_grade S (from_0 R.sender) R.value in
        let f = final_flag S (from_0 R.sender) R.value in
        let k = garbled_rounds S (from_0 R.sender) R.value in
        let h : Good R.n (marked R.marks) j = (inside, good) in
        is_done S (from_0 R.sender) R.value in_line few j v (its_state (rounds R.t))
        (knows (rounds R.t) (omega arith) agree)
        ∙ rw (counts agree, good_value S y g f k j h, good_grade S y g f k j h, good_flag S y g f k j h, good_count S y g f k j h)

  good_sent : (r i j : ℕ) → marked R.marks i ≡ false → s_sent r i j ≡ said (setting_of R) (from_0 R.sender) R.value r i
  unfolding s_sent sent setting
  good_sent r i j g = good_sends (setting_of R) r i j _ g

  marked_sent : (r i j : ℕ) → marked R.marks i ≡ true → s_sent r i j ≡ at R.table (place R.n r i j)
  unfolding s_sent sent sends setting
  marked_sent r i j b = if_true _ _ b

  log_agrees : (m : ℕ) → m ≤ rounds R.t → Agree (log R) m
  unfolding s_sent
  log_agrees m l r i j a b hi hj = log_at R r i j a (omega arith) hi hj

  -- ---- the first sentence

  pub follows : (j v : ℕ) → Good R.n (marked R.marks) j → (j ≡ from_0 R.sender → v ≡ R.value) → Follows R j v
  unfolding its_state
  follows j v g opens = record {
    running_before = λ m l. rw (add-one m) (runs j v g.0 (log R) m l (log_agrees m (omega arith)));
    ballots = λ m k l h.
        is_told j v g.0 (log R) m (omega arith) (log_agrees m (omega arith)) opens
        ∙ sym (good_sent (suc m) j k g.1)
        ∙ rw (add-one m) (sym (log_agrees (suc m) l (suc m) j k (omega arith) (omega arith) g.0 h));
    done_after = ends j v g.0 (log R) g.1 (log_agrees (rounds R.t) (omega arith));
  }

  -- ---- the second sentence

  module _ (v : ℕ → ℕ) (opens : v (from_0 R.sender) ≡ R.value) where
    -- bytes put together agree with the run in one round more
    agrees_next : (bytes : List ℕ) → PutTogether R v bytes → (m : ℕ) → m < rounds R.t → Agree bytes m
        → (i j : ℕ) → i < R.n → j < R.n → (b : Bool) → marked R.marks i ≡ b → at bytes (place R.n (suc m) i j) ≡ s_sent (suc m) i j
    unfolding its_state
    agrees_next bytes P m l agree i j hi hj true e =
        P.from_marked (suc m) i j (omega arith) l hi hj e ∙ sym (marked_sent (suc m) i j e)
    agrees_next bytes P m l agree i j hi hj false e =
        let back : suc m - 1 ≡ m = omega arith in
        (rw back at (P.from_good (suc m) i j (omega arith) l hi hj e))
        ∙ is_told i (v i) hi bytes m (omega arith) agree (λ q. ap v q ∙ opens)
        ∙ sym (good_sent (suc m) i j e)

    agrees : (bytes : List ℕ) → PutTogether R v bytes → (m : ℕ) → m ≤ rounds R.t → Agree bytes m
    agrees bytes P zero l r i j a b hi hj = absurd (omega arith)
    agrees bytes P (suc m) l r i j a b hi hj = go (eq-or-lt_of_le b) (agrees bytes P m (omega arith))
      where
        go : (r ≡ suc m) ⊎ (r < suc m) → Agree bytes m → at bytes (place R.n r i j) ≡ s_sent r i j
        go (inr c) before = before r i j a (omega arith) hi hj
        go (inl c) before = rw c (agrees_next bytes P m l before i j hi hj (marked R.marks i) refl)

    log_put_together : PutTogether R v (log R)
    log_put_together = record {
      size = log_size R;
      from_marked = λ r i j a b hi hj e. log_agrees r b r i j a (omega arith) hi hj ∙ marked_sent r i j e;
      from_good = λ r i j a b hi hj e.
          let back : r - 1 + 1 ≡ r = omega arith in
          rw back at (sym ((follows i (v i) (hi, e) (λ q. ap v q ∙ opens)).ballots (r - 1) j (omega arith) hj));
    }

    pub make_run : MakeRun R v
    unfolding its_state
    make_run = record {
      the_log = λ bytes P.
          same_bytes R.n (rounds R.t) (omega (arith, fits)) bytes (log R) P.size (log_size R)
          (λ r i j a b hi hj. agrees bytes P r b r i j a (omega arith) hi hj ∙ sym (log_agrees r b r i j a (omega arith) hi hj));
      the_outcomes = λ bytes P i g. ends i (v i) g.0 bytes g.1 (agrees bytes P (rounds R.t) (omega arith));
      log_is_such = log_put_together;
    }
