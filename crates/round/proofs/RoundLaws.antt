-- Laws of one round: the counts of a receiver's column are its row's tallies, and the steps from counts those from the row. Assumes nothing.
use Rattle.std.specs.Prelude.{if◌then◌else◌}
use Prim.Native.Nat.{ℕ, zero, suc, ◌+◌, ◌-◌, ◌*◌, ◌≤◌, ◌<◌}
use mathlib.Core.Path.{◌≡◌, refl, sym, ap, ◌∙◌}
use mathlib.Core.Bool.{Bool, true, false, ◌&&◌, true≢false}
use mathlib.Core.Logic.{⊎_elim}
use mathlib.Core.List.{List}
use native.Mathlib.Omega.{arith}
use lib.Dec.{eqb}
use borrow.Author.Tests.{ltb-true, lt-ltb, lt-leb}
use lib.ListN.{length, get_or, replicate, get_or-replicate}
use Rattle.line.specs.Count.{count}
use Rattle.line.specs.Ballot.{blank, is_garbled}
use Rattle.line.proofs.CountLaws.{le_or_lt}
use Rattle.line.specs.Line.{Fits, rounds, has_round}
use Rattle.line.proofs.WritingLaws.{each_fewer}
use Rattle.broadcast.specs.Exchange.{Row, seconds, z_from, z_of, y_from, y_of, for_y, grade_of}
use Rattle.broadcast.proofs.TallyLaws.{first_bytes, firsts_else, blanks_for_neither, z_from_means, for_y_is}
use Rattle.column.specs.Column.{column, each_of, counted, count_of}
use Rattle.column.proofs.ColumnLaws.{count_there}
use Rattle.line.specs.Writing.{Each}
use Rattle.broadcast.specs.Bytes.{tabulate}
use Rattle.broadcast.proofs.BytesLaws.{get_d_tabulate}
use Rattle.broadcast.specs.Broadcast as broadcast
use Rattle.broadcast.specs.Garbled.{reading, some_garbled}
use Rattle.broadcast.specs.Station.{Setup, State, opened, ballot, moved, next_count, taken, advance, at, after}
use Rattle.broadcast.proofs.RowLaws.{seconds_same, z_same, y_same}
use Rattle.broadcast.proofs.RoundLaws.{after_count_le}
use Rattle.broadcast.proofs.PartLaws.{part_sender, part_first, part_second, part_king, first_is, by_parts}
use Rattle.step.specs.Part.{as_part, of_part}
use Rattle.step.specs.Noted.{noted}
use Rattle.step.proofs.StepLaws.{told_as, moved_as}
use Rattle.garbled.specs.Found.{found}
use Rattle.garbled.proofs.FoundLaws.{found_row, noted_row}
use Rattle.step.specs.declared.Part.{Part}
use Rattle.post.specs.Posted.{posted}
use Rattle.line.specs.Marks.{marked}
use Rattle.post.proofs.PostLaws.{posted_as, posted_at, posted_before, posted_length}
use Rattle.all_stations.specs.Counts.{votes_for}
use Rattle.round.specs.declared.Stations.{Stations}
use Rattle.round.specs.Round.{setup_at, state_at, all_opened, said_by, Taken, speaker_within, takable, playable, Plays}

-- a line of at most 32 has all its stations in an array
pub all_of : (n : ℕ) (l : List ℕ) (F : ℕ → ℕ) → n ≤ 32 → Each 32 l F → Each n l F
all_of n l F h each = each_fewer 32 n l F h each

-- with each station's count from what is found for it, and its column taken as part q, which p is, the round is taken
pub taken_as : (n t T sender : ℕ) (p q : Part) (senders : ℕ) (s : Stations) (log : List ℕ) (start : ℕ) (l seen : List ℕ) (s' : Stations)
    → n ≤ 32 → Each 32 l (λ j. noted (get_or s.garbled j 0) (get_or seen j 0)) → Each n seen (found n senders sender p log start)
    → p ≡ q
    → ((r j : ℕ) → j < n → state_at s' (r + 1) j ≡ moved (setup_at n t T sender j) (state_at s r j) (column log start n j) (get_or l j 0) (of_part q))
    → Taken n t T sender p senders s log start s'
unfolding Each Taken
taken_as n t T sender p q senders s log start l seen s' most each is e moves =
    λ r j k.
    moves r j k
    ∙ ap (λ (g : ℕ). moved (setup_at n t T sender j) (state_at s r j) (column log start n j) g (of_part q)) (each j (omega arith) ∙ ap (noted (get_or s.garbled j 0)) (is j k))
    ∙ ap (λ (x : Part). moved (setup_at n t T sender j) (state_at s r j) (column log start n j) (noted (get_or s.garbled j 0) (found n senders sender p log start j)) (of_part x)) (sym e)

-- the same byte wanted of all
pub wanted_is : (n v j : ℕ) → n ≤ 32 → j < n → each_of (replicate 32 v) j ≡ v
unfolding each_of
wanted_is n v j most h = get_or-replicate 32 j v 0 (omega arith)

-- ---- from counts

-- whatever counts for blank, z is blank
z_from_blank : (n T c c' : ℕ) → z_from n T blank c ≡ z_from n T blank c'
z_from_blank n T c c' = is c ∙ sym (is c')
  where
    is : (c : ℕ) → z_from n T blank c ≡ blank
    is c = ⊎_elim (z_from_means n T blank c).0 (z_from_means n T blank c).1 (le_or_lt (n - T) c)

-- the bytes that are x are the ballots that count for it: x is a value, or blank, or anything else
z_from_bytes : (n T x : ℕ) (row : Row) → z_from n T x (votes_for x (count n (λ i. eqb (row i) x))) ≡ z_of n T x row
unfolding votes_for z_of
z_from_bytes n T zero row = rw (first_bytes n 0 row (omega arith))
z_from_bytes n T (suc zero) row = rw (first_bytes n 1 row (omega arith))
z_from_bytes n T (suc (suc zero)) row = z_from_blank n T _ _
z_from_bytes n T (suc (suc (suc x))) row = rw (lt-leb (suc (suc (suc x))) 1 (omega arith), firsts_else n (suc (suc (suc x))) row (omega arith))

module _ (n start : ℕ) (log : List ℕ) (room : has_round n start (length log) ≡ true) (j : ℕ) where
  bytes_are : (wanted : ℕ → ℕ) → count_of n log start wanted j ≡ count n (λ i. eqb (column log start n j i) (wanted j))
  unfolding counted
  bytes_are wanted = count_there n log start wanted room j

  -- step 2
  pub z_made : (T equal : ℕ) (x : ℕ → ℕ) → equal ≡ count_of n log start x j
      → z_from n T (x j) (votes_for (x j) equal) ≡ z_of n T (x j) (column log start n j)
  z_made T equal x e = rw (e, bytes_are x) (z_from_bytes n T (x j) (column log start n j))

  module _ (zeros ones : ℕ) (zero_wanted one_Wanted : ℕ → ℕ) (is_0 : zero_wanted j ≡ 0) (is_1 : one_Wanted j ≡ 1)
      (a : zeros ≡ count_of n log start zero_wanted j) (b : ones ≡ count_of n log start one_Wanted j) where
    zeros_are : zeros ≡ seconds n 0 (column log start n j)
    zeros_are = a ∙ bytes_are zero_wanted ∙ rw is_0 (sym (blanks_for_neither n 0 (column log start n j) (omega arith)))

    ones_are : ones ≡ seconds n 1 (column log start n j)
    ones_are = b ∙ bytes_are one_Wanted ∙ rw is_1 (sym (blanks_for_neither n 1 (column log start n j) (omega arith)))

    -- step 4
    pub y_made : y_from zeros ones ≡ y_of n (column log start n j)
    unfolding y_of
    y_made = rw (zeros_are, ones_are)

    -- step 5
    pub grade_made : (t T : ℕ)
        → grade_of n t T (for_y zeros ones) ≡ grade_of n t T (seconds n (y_of n (column log start n j)) (column log start n j))
    grade_made t T =
        rw (zeros_are, ones_are) (ap (grade_of n t T) (for_y_is n (column log start n j)))

-- ---- a station looks at no more of a row than its n bytes

moved_same : (c : Setup) (s : State) (row row' : Row) (g : ℕ) → ((k : ℕ) → k < c.n → row k ≡ row' k)
    → (p : broadcast.Part) → speaker_within c.n c.sender_from_0 (as_part p) ≡ true → moved c s row g p ≡ moved c s row' g p
unfolding moved
moved_same c s row row' g same broadcast.from_sender h = rw (same c.sender_from_0 (ltb-true c.sender_from_0 c.n h))
moved_same c s row row' g same (broadcast.first_of p) h = rw (z_same c.n row row' same c.T s.value)
moved_same c s row row' g same (broadcast.second_of p) h =
    rw (y_same c.n row row' same, seconds_same c.n row row' same (y_of c.n row'))
moved_same c s row row' g same (broadcast.from_king p) h = rw (same p (ltb-true p c.n h))

-- ---- a station that is as its automaton is after m rows

module _ (n t T sender : ℕ) (s : Stations) (v m i : ℕ) (rows : ℕ → List ℕ) (here : state_at s (suc m) i ≡ after (setup_at n t T sender i) v rows m) where
  -- says its automaton's ballot
  pub says_ballot : said_by sender (as_part (broadcast.part (suc m))) s i ≡ ballot (setup_at n t T sender i) (after (setup_at n t T sender i) v rows m)
  unfolding said_by ballot
  says_ballot =
      told_as sender i (get_or s.value i 0) (get_or s.z i 0) (broadcast.part (suc m)) ∙ ap (ballot (setup_at n t T sender i)) here

  -- counts what it counts, where who is not looked at sends nothing garbled
  pub counts_row : (senders : ℕ) (bytes : List ℕ) (start : ℕ) → has_round n start (length bytes) ≡ true → get_or s.garbled i 0 < 255
      → ((k : ℕ) → k < n → column bytes start n i k ≡ at (rows (suc m)) k)
      → ((k : ℕ) → k < n → marked senders k ≡ false → broadcast.speaks sender (broadcast.part (suc m)) k ≡ true
      → is_garbled (reading (broadcast.part (suc m)) (at (rows (suc m)) k)) ≡ false)
      → noted (get_or s.garbled i 0) (found n senders sender (as_part (broadcast.part (suc m))) bytes start i)
      ≡ next_count (setup_at n t T sender i) (get_or s.garbled i 0) (at (rows (suc m))) (broadcast.part (suc m))
  unfolding next_count
  counts_row senders bytes start room low row_is quiet =
      noted_row (get_or s.garbled i 0) _ (some_garbled n sender (broadcast.part (suc m)) (at (rows (suc m)))) low (found_row n senders sender (broadcast.part (suc m)) bytes start i (at (rows (suc m))) row_is quiet room)

  -- and takes its row as it does
  pub takes_row : (senders : ℕ) (bytes : List ℕ) (start : ℕ) (s' : Stations) → Taken n t T sender (as_part (broadcast.part (suc m))) senders s bytes start s' → i < n
      → speaker_within n sender (as_part (broadcast.part (suc m))) ≡ true → has_round n start (length bytes) ≡ true → m < 255
      → ((k : ℕ) → k < n → column bytes start n i k ≡ at (rows (suc m)) k)
      → ((k : ℕ) → k < n → marked senders k ≡ false → broadcast.speaks sender (broadcast.part (suc m)) k ≡ true
      → is_garbled (reading (broadcast.part (suc m)) (at (rows (suc m)) k)) ≡ false)
      → state_at s' (suc m + 1) i ≡ after (setup_at n t T sender i) v rows (suc m)
  unfolding Taken advance after taken
  takes_row senders bytes start s' takes h speaker room few row_is quiet =
      let c = setup_at n t T sender i in
      let low : get_or s.garbled i 0 < 255 = omega (arith, ap (λ (st : State). st.garbled) here, after_count_le c v rows m) in
      takes (suc m) i h
      ∙ moved_as c (state_at s (suc m) i) (column bytes start n i) _ (broadcast.part (suc m))
      ∙ moved_same c (state_at s (suc m) i) (column bytes start n i) (at (rows (suc m))) _ row_is (broadcast.part (suc m)) speaker
      ∙ ap (λ (g : ℕ). moved c (state_at s (suc m) i) (at (rows (suc m))) g (broadcast.part (suc m))) (counts_row senders bytes start room low row_is quiet)
      ∙ ap (λ (st : State). advance c st (at (rows (suc m)))) here

-- before the first
pub opened_at : (n t T sender v i : ℕ) (rows : ℕ → List ℕ) → i < 32
    → state_at (all_opened (replicate 32 v)) 1 i ≡ after (setup_at n t T sender i) v rows 0
unfolding after opened
opened_at n t T sender v i rows h =
    rw (get_or-replicate 32 i v 0 h, get_or-replicate {A = ℕ} 32 i blank 0 h, get_or-replicate {A = ℕ} 32 i 0 0 h)

-- who speaks alone is of the line
pub speaker_in : (n t T sender : ℕ) → Fits n t T → sender < n → (r : ℕ) → 1 ≤ r → r ≤ rounds t → speaker_within n sender (as_part (broadcast.part r)) ≡ true
speaker_in n t T sender fits within =
    by_parts (λ (r : ℕ). r ≤ rounds t → speaker_within n sender (as_part (broadcast.part r)) ≡ true)
    (λ h. rw part_sender (lt-ltb sender n within))
    (λ p h. rw (part_first p))
    (λ p h. rw (part_second p))
    (λ p h. rw (part_king p) (lt-ltb p n (omega (arith, first_is p, fits.order, fits.room))))

-- a round that can be taken
pub can_take : (n sender : ℕ) (p : Part) (start log_size : ℕ) → speaker_within n sender p ≡ true → has_round n start log_size ≡ true
    → takable n sender p start log_size ≡ true
unfolding takable
can_take n sender p start log_size a b = rw (a, b)

-- ---- a round that can be played

module _ (n sender : ℕ) (p : Part) (start log_size table_size : ℕ) where
  pub played : speaker_within n sender p ≡ true → has_round n start log_size ≡ true → has_round n start table_size ≡ true
      → playable n sender p start log_size table_size ≡ true
  unfolding playable
  played a b c = rw (a, b, c)

  pub playable_means : playable n sender p start log_size table_size ≡ true
      → (speaker_within n sender p ≡ true) × (has_round n start log_size ≡ true) × (has_round n start table_size ≡ true)
  unfolding playable
  playable_means = go (speaker_within n sender p) (has_round n start log_size) (has_round n start table_size)
    where
      go : (a b c : Bool) → (a && (b && c)) ≡ true → (a ≡ true) × (b ≡ true) × (c ≡ true)
      go true true true e = (refl, refl, refl)
      go true true false e = absurd (true≢false (sym e))
      go true false c e = absurd (true≢false (sym e))
      go false b c e = absurd (true≢false (sym e))

module _ (n t T sender : ℕ) (p : Part) (s : Stations) (marks : ℕ) (table : List ℕ) (start : ℕ) (log : List ℕ) where
  -- the round is posted with what was said, and taken
  pub went : playable n sender p start (length log) (length table) ≡ true → (said : List ℕ) → Each n said (said_by sender p s)
      → (log' : List ℕ) (s' : Stations) → log' ≡ posted n marks said table log start → Taken n t T sender p marks s log' start s'
      → Plays n t T sender p s marks table start log log' s'
  unfolding Each
  went e said each log' s' q takes = record {
    log_is = rw e (q ∙ posted_as n marks said (tabulate n (said_by sender p s)) table log start (λ i h. each i h ∙ sym (get_d_tabulate n (said_by sender p s) i h)));
    takes = λ _. takes;
    stays = λ f. absurd (true≢false (sym e ∙ f));
  }

-- ---- what a played round leaves in the log

module _ (n t T sender : ℕ) (p : Part) (s : Stations) (marks : ℕ) (table : List ℕ) (start : ℕ) (log₀ log₁ : List ℕ) (s' : Stations)
    (e : playable n sender p start (length log₀) (length table) ≡ true) (P : Plays n t T sender p s marks table start log₀ log₁ s') where
  said : List ℕ
  said = tabulate n (said_by sender p s)

  posts : log₁ ≡ posted n marks said table log₀ start
  unfolding said
  posts = P.log_is ∙ rw e

  pub log_size : length log₁ ≡ length log₀
  log_size = ap length posts ∙ posted_length said table marks start n log₀

  pub log_before : (k : ℕ) → k < start → get_or log₁ k 0 ≡ get_or log₀ k 0
  log_before k h = ap (λ (l : List ℕ). get_or l k 0) posts ∙ posted_before said table marks start n log₀ k h

  -- station j's column: the table's byte from a bad station, what a good one says
  pub column_is : (i j : ℕ) → i < n → j < n
      → column log₁ start n j i ≡ (if marked marks i then get_or table (start + i * n + j) 0 else said_by sender p s i)
  unfolding column said
  column_is i j hi hj =
      let (a, b, c) = playable_means n sender p start (length log₀) (length table) e in
      ap (λ (l : List ℕ). get_or l (start + i * n + j) 0) posts
      ∙ posted_at said table marks start n log₀ b c i j hi hj
      ∙ ap (λ (q : ℕ). if marked marks i then get_or table (start + i * n + j) 0 else q) (get_d_tabulate n (said_by sender p s) i hi)
