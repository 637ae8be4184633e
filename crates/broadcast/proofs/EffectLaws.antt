-- What has no effect: the table's bytes for good senders, those of a bad station in a round in which it should not speak, those to bad
-- stations, and a bad station's input. Assumes nothing.
use Prim.Native.Nat.{ℕ, zero, suc, ◌+◌, ◌-◌, ◌*◌, ◌≤◌, ◌<◌}
use mathlib.Core.Path.{◌≡◌, refl, sym, ap, ◌∙◌}
use mathlib.Core.Bool.{Bool, true, false}
use mathlib.Core.List.{List}
use native.Mathlib.Omega.{arith}
use borrow.Author.Tests.{eq-eqb, eqb-true}
use Rattle.std.specs.Prelude.{if◌then◌else◌}
use Rattle.line.specs.Line.{Fits, from_0, rounds, place}
use Rattle.line.specs.Marks.{marked}
use Rattle.line.specs.Ballot.{sender_value}
use Rattle.line.proofs.CountLaws.{count_same}
use Rattle.broadcast.specs.Exchange.{Setting, sends, grade_of, seconds, first_row, z, second_row, y, grade, flag_of}
use Rattle.broadcast.specs.Broadcast.{phases, first_round, x_after, z_after, y_after, grade_after, value_of, final_grade, final_flag, first_of, second_of, part, speaks, spoken, said, sent}
use Rattle.broadcast.specs.Garbled.{received, garbled_in, garbled_rounds, garbled_first, garbled_second, garbled_alone}
use Rattle.broadcast.specs.Station.{at}
use Rattle.broadcast.specs.Bytes.{setting, exchange_outcomes, Run, setting_of, log, outcomes}
use Rattle.broadcast.specs.Guarantees.{Good}
use Rattle.broadcast.specs.Theorems.{ExchangeEffect, with_table, SameToGood, SameWhereSpoken, SameEffect}
use Rattle.broadcast.proofs.RowLaws.{seconds_same, z_same, y_same, some_same}
use Rattle.broadcast.proofs.PartLaws.{part_sender, part_first, part_second, part_king, first_is, by_parts}
use Rattle.broadcast.proofs.ExchangeLaws.{good_sends}
use Rattle.broadcast.proofs.BytesLaws.{sender_inside, kings_inside, log_at, outcomes_same}

-- the same setting with another table
abbrev retabled : Setting → (ℕ → ℕ → ℕ → ℕ) → Setting
retabled S table = record { n = S.n; t = S.t; T = S.T; bad = S.bad; table = table }

-- both have the same at every good station
abbrev SameGood : Setting → (ℕ → ℕ) → (ℕ → ℕ) → Type 0
SameGood S a b = (i : ℕ) → Good S.n S.bad i → a i ≡ b i

module _ (S : Setting) (table : ℕ → ℕ → ℕ → ℕ) where
  S' : Setting
  S' = retabled S table

  -- a byte that a bad station sends to a good one in round r has the same in both tables
  abbrev Same : ℕ → ℕ → Type 0
  Same r i = S.bad i ≡ true → (j : ℕ) → Good S.n S.bad j → S.table r i j ≡ table r i j

  sends_same : (r i j b b' : ℕ) → Good S.n S.bad j → Same r i → (S.bad i ≡ false → b ≡ b') → sends S r i j b ≡ sends S' r i j b'
  unfolding sends S'
  sends_same r i j b b' g h e = go (S.bad i) refl
    where
      go : (c : Bool) → S.bad i ≡ c → (if c then S.table r i j else b) ≡ (if c then table r i j else b')
      go true q = h q j g
      go false q = e q

  -- ---- one exchange

  module _ (r : ℕ) (x x' : ℕ → ℕ) (one : (i : ℕ) → i < S.n → Same r i) (two : (i : ℕ) → i < S.n → Same (r + 1) i) (same : SameGood S x x') where
    first_same : (j : ℕ) → Good S.n S.bad j → (i : ℕ) → i < S.n → first_row S r x j i ≡ first_row S' r x' j i
    unfolding first_row
    first_same j g i l = sends_same r i j (x i) (x' i) g (one i l) (λ q. same i (l, q))

    same_z : SameGood S (z S r x) (z S' r x')
    unfolding z S'
    same_z j g = rw (← same j g) (z_same S.n (first_row S r x j) (first_row S' r x' j) (first_same j g) S.T (x j))

    row_same : (j : ℕ) → Good S.n S.bad j → (i : ℕ) → i < S.n → second_row S r x j i ≡ second_row S' r x' j i
    unfolding second_row
    row_same j g i l = sends_same (r + 1) i j (z S r x i) (z S' r x' i) g (two i l) (λ q. same_z i (l, q))

    same_y : SameGood S (y S r x) (y S' r x')
    unfolding y S'
    same_y j g = y_same S.n (second_row S r x j) (second_row S' r x' j) (row_same j g)

    same_grade : SameGood S (grade S r x) (grade S' r x')
    unfolding grade S'
    same_grade j g =
        ap (grade_of S.n S.t S.T)
        (ap (λ (v : ℕ). seconds S.n v (second_row S r x j)) (same_y j g)
        ∙ seconds_same S.n (second_row S r x j) (second_row S' r x' j) (row_same j g) (y S' r x' j))

  -- ---- the broadcast

  module _ (sender_from_0 value : ℕ) (in_line : sender_from_0 < S.n) (few : S.t < S.n)
      (tables : (r i : ℕ) → 1 ≤ r → r ≤ rounds S.t → i < S.n → speaks sender_from_0 (part r) i ≡ true → Same r i) where
    X : ℕ → ℕ → ℕ
    X = x_after S sender_from_0 value

    X' : ℕ → ℕ → ℕ
    X' = x_after S' sender_from_0 value

    one : (p : ℕ) → p ≤ S.t + 1 → (i : ℕ) → i < S.n → Same (first_round p) i
    unfolding speaks
    one p h i l = tables (first_round p) i (omega (arith, first_is p)) (omega (arith, first_is p)) l (rw (part_first p))

    two : (p : ℕ) → p ≤ S.t + 1 → (i : ℕ) → i < S.n → Same (first_round p + 1) i
    unfolding speaks
    two p h i l = tables (first_round p + 1) i (omega arith) (omega (arith, first_is p)) l (rw (part_second p))

    three : (p : ℕ) → p ≤ S.t → Same (first_round p + 2) p
    unfolding speaks
    three p h =
        tables (first_round p + 2) p (omega arith) (omega (arith, first_is p)) (omega arith) (rw (part_king p) (eq-eqb p p refl))

    same_x : (p : ℕ) → p ≤ S.t + 1 → SameGood S (X p) (X' p)
    unfolding X X' x_after speaks
    same_x zero h j g =
        ap sender_value
        (sends_same 1 sender_from_0 j value value g
        (tables 1 sender_from_0 (omega arith) (omega arith) in_line (rw part_sender (eq-eqb sender_from_0 sender_from_0 refl)))
        (λ _. refl))
    same_x (suc p) h j g =
        let ih = same_x p (omega arith) in
        let r = first_round p in
        let a = one p (omega arith) in
        let b = two p (omega arith) in
        let king = sends_same (r + 2) p j _ _ g (three p (omega arith)) (λ q. same_y r (X p) (X' p) a b ih p (omega arith, q)) in
        rw (same_grade r (X p) (X' p) a b ih j g, same_y r (X p) (X' p) a b ih j g, king)

    same_z_after : (p : ℕ) → p ≤ S.t + 1 → SameGood S (z_after S sender_from_0 value p) (z_after S' sender_from_0 value p)
    unfolding z_after X X'
    same_z_after p h = same_z (first_round p) (X p) (X' p) (one p h) (two p h) (same_x p h)

    same_y_after : (p : ℕ) → p ≤ S.t + 1 → SameGood S (y_after S sender_from_0 value p) (y_after S' sender_from_0 value p)
    unfolding y_after X X'
    same_y_after p h = same_y (first_round p) (X p) (X' p) (one p h) (two p h) (same_x p h)

    same_grade_after : (p : ℕ) → p ≤ S.t + 1 → SameGood S (grade_after S sender_from_0 value p) (grade_after S' sender_from_0 value p)
    unfolding grade_after X X'
    same_grade_after p h = same_grade (first_round p) (X p) (X' p) (one p h) (two p h) (same_x p h)

    -- every good station says the same in every round
    abbrev SaidSame : ℕ → Type 0
    SaidSame r = r ≤ rounds S.t → SameGood S (said S sender_from_0 value r) (said S' sender_from_0 value r)

    said_same : (r : ℕ) → 1 ≤ r → SaidSame r
    unfolding said speaks spoken X X'
    said_same =
        by_parts SaidSame
        (λ h i g. rw part_sender refl)
        (λ p h i g. rw (part_first p) (same_x p (omega (arith, first_is p)) i g))
        (λ p h i g. rw (part_second p) (same_z_after p (omega (arith, first_is p)) i g))
        (λ p h i g. rw (part_king p, same_y_after p (omega (arith, first_is p)) i g))

    -- and counts the same
    same_garbled : SameGood S (garbled_rounds S sender_from_0 value) (garbled_rounds S' sender_from_0 value)
    unfolding garbled_rounds garbled_in received sent S'
    same_garbled j g =
        count_same (rounds S.t) _ _ (λ m l.
        some_same S.n sender_from_0 (part (suc m)) _ _ (λ i h speaks_i.
        sends_same (suc m) i j _ _ g (tables (suc m) i (omega arith) l h speaks_i) (λ q. said_same (suc m) (omega arith) l i (h, q))))

-- the exchange had alone counts the same
same_alone : (S : Setting) (table : ℕ → ℕ → ℕ → ℕ) (x x' : ℕ → ℕ) → ((i : ℕ) → i < S.n → Same S table 1 i) → ((i : ℕ) → i < S.n → Same S table (1 + 1) i)
    → SameGood S x x' → SameGood S (garbled_alone S x) (garbled_alone (retabled S table) x')
unfolding garbled_alone garbled_first garbled_second S'
same_alone S table x x' one two same j g =
    let a = some_same S.n 0 (first_of 0) _ _ (λ i l _. first_same S table 1 x x' one two same j g i l) in
    let b = some_same S.n 0 (second_of 0) _ _ (λ i l _. row_same S table 1 x x' one two same j g i l) in
    rw (a, b)

-- ---- of the bytes

pub same_exchange : ExchangeEffect
unfolding exchange_outcomes setting S'
same_exchange n t T marks inputs inputs' table table' same agree =
    let S = setting n t T marks table in
    let tab : ℕ → ℕ → ℕ → ℕ = λ r i j. at table' (place n r i j) in
    let x = at inputs in
    let x' = at inputs' in
    let one : (i : ℕ) → i < n → Same S tab 1 i = λ i l b j g. agree 1 i j (omega arith) (omega arith) l b g in
    let two : (i : ℕ) → i < n → Same S tab (1 + 1) i = λ i l b j g. agree 2 i j (omega arith) (omega arith) l b g in
    let sy = same_y S tab 1 x x' one two same in
    let sg = same_grade S tab 1 x x' one two same in
    outcomes_same S (retabled S tab) _ _ _ _ _ _ _ _ refl (λ i. refl) (λ i g. (sy i g, sg i g, ap flag_of (sg i g), same_alone S tab x x' one two same i g))

module _ (R : Run) (table : List ℕ) (fits : Fits R.n R.t R.T) (low : 1 ≤ R.sender) (high : R.sender ≤ R.n)
    (agree : (i : ℕ) → i < R.n → marked R.marks i ≡ true → SameWhereSpoken R table i) where
  R' : Run
  R' = with_table R table

  tab : ℕ → ℕ → ℕ → ℕ
  tab r i j = at table (place R.n r i j)

  in_line : from_0 R.sender < (setting_of R).n
  in_line = sender_inside R low high

  few : (setting_of R).t < (setting_of R).n
  few = kings_inside R fits

  -- where a marked station should speak, by the parts of a broadcast
  abbrev Agree : ℕ → Type 0
  Agree r = r ≤ rounds R.t → (i : ℕ) → i < R.n → marked R.marks i ≡ true → speaks (from_0 R.sender) (part r) i ≡ true
      → SameToGood R table r i

  agree_in : (r : ℕ) → 1 ≤ r → Agree r
  unfolding speaks
  agree_in =
      by_parts Agree
      (λ h i l m s. (agree i l m).sender (omega (arith, eqb-true i (from_0 R.sender) (rw part_sender at s))))
      (λ p h i l m s.
      let q : 3 * (p + 1) - 1 ≡ first_round p = omega (arith, first_is p) in
      rw q at ((agree i l m).first (p + 1) (omega arith) (omega (arith, first_is p))))
      (λ p h i l m s.
      let q : 3 * (p + 1) ≡ first_round p + 1 = omega (arith, first_is p) in
      rw q at ((agree i l m).second (p + 1) (omega arith) (omega (arith, first_is p))))
      (λ p h i l m s.
      let q : 3 * (p + 1) + 1 ≡ first_round p + 2 = omega (arith, first_is p) in
      let e : i ≡ p = eqb-true i p (rw (part_king p) at s) in
      rw q at ((agree i l m).king (p + 1) (omega arith) (omega (arith, first_is p)) (omega arith)))

  tables : (r i : ℕ) → 1 ≤ r → r ≤ rounds (setting_of R).t → i < (setting_of R).n → speaks (from_0 R.sender) (part r) i ≡ true
      → Same (setting_of R) tab r i
  unfolding setting tab
  tables r i a b l s m j g = agree_in r a b i l m s j g

  same_ballots : (r i j : ℕ) → 1 ≤ r → r ≤ rounds R.t → Good R.n (marked R.marks) i → j < R.n
      → at (log R) (place R.n r i j) ≡ at (log R') (place R.n r i j)
  unfolding setting sent S' R' tab
  same_ballots r i j a b g h =
      log_at R r i j a b g.0 h
      ∙ good_sends (setting_of R) r i j _ g.1
      ∙ said_same (setting_of R) tab (from_0 R.sender) R.value in_line few tables r a b i g
      ∙ sym (good_sends (setting_of R') r i j _ g.1)
      ∙ sym (log_at R' r i j a b g.0 h)

  same_results : outcomes R ≡ outcomes R'
  unfolding outcomes setting phases value_of final_grade final_flag S' R' tab
  same_results =
      let S = setting_of R in
      let p = R.t + 1 in
      let sy = same_y_after S tab (from_0 R.sender) R.value in_line few tables p (omega arith) in
      let sg = same_grade_after S tab (from_0 R.sender) R.value in_line few tables p (omega arith) in
      let sc = same_garbled S tab (from_0 R.sender) R.value in_line few tables in
      outcomes_same S (setting_of R') _ _ _ _ _ _ _ _ refl (λ i. refl) (λ i g. (sy i g, sg i g, ap flag_of (sg i g), sc i g))

  pub same_effect : SameEffect R (with_table R table)
  unfolding R'
  same_effect = record { ballots = same_ballots; results = same_results }
