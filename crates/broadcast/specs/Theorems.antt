-- The statements that proofs/Theorems.antt proves, each under the same name in lower case. Their hypotheses are document 01's, and where one
-- of these is not needed it is left out.
use Rattle.std.specs.Prelude.{ℕ, suc, ◌+◌, ◌-◌, ◌*◌, ◌≤◌, ◌<◌, ◌≡◌, ◌≢◌, Bool, true, false, not, List, eqb, length}
use Rattle.line.specs.Count.{count}
use Rattle.line.specs.Line.{Fits, from_0, rounds, table_length, outcome_size, outcomes_length, place}
use Rattle.line.specs.Marks.{marked, faults}
use Rattle.line.specs.Ballot.{blank, read_king, is_garbled}
use Rattle.broadcast.specs.Exchange.{Row, firsts, seconds, y_of, grade_of, flag_of, Setting, y, grade}
use Rattle.broadcast.specs.Broadcast.{obey, from_sender, first_of, second_of, from_king, x_after, z_after, y_after, part, speaks, sent}
use Rattle.broadcast.specs.Garbled.{reading, some_garbled}
use Rattle.broadcast.specs.Station.{Setup, State, running, done, ballot, advance, result, at, after}
use Rattle.broadcast.specs.Bytes.{exchange_outcomes, Run, setting_of, log, outcomes, setup, column}
use Rattle.broadcast.specs.Guarantees.{Good, GradedConsensus, TwoThreshold}

-- ---- the graded exchange

-- step 1 (request 2): "a byte other than 0 or 1 now counts for neither value": the count for v, 0 or 1, is the number of bytes that are v
abbrev pub FirstCounts : Type 0
FirstCounts = (n v : ℕ) (row : Row) → v ≤ 1 → firsts n v row ≡ count n (λ i. eqb (row i) v)

-- zeros, ones and what counts for neither make n
abbrev pub FirstBallotsMakeN : Type 0
FirstBallotsMakeN = (n : ℕ) (row : Row) → firsts n 0 row + firsts n 1 row + firsts n blank row ≡ n

-- step 4: "blanks count for neither": the count for v, 0 or 1, is the number of bytes that are v
abbrev pub BlanksCountForNeither : Type 0
BlanksCountForNeither = (n v : ℕ) (row : Row) → v ≤ 1 → seconds n v row ≡ count n (λ i. eqb (row i) v)

-- step 4: "and zeros, ones and blanks make n"
abbrev pub BallotsMakeN : Type 0
BallotsMakeN = (n : ℕ) (row : Row) → seconds n 0 row + seconds n 1 row + seconds n blank row ≡ n

-- step 4 (request 6), of every row of an accepted line with as many zeros as ones: "equal counts now give 0", and "A balance always has grade 0"
pub record Balance (n t T : ℕ) (row : Row) : Type 0 where
  pub value : y_of n row ≡ 0
  pub grade : grade_of n t T (seconds n (y_of n row) row) ≡ 0

abbrev pub BalanceHasGrade0 : Type 0
BalanceHasGrade0 = (n t T : ℕ) → Fits n t T → (row : Row) → seconds n 0 row ≡ seconds n 1 row → Balance n t T row

-- "A changeover that nobody carries by majority should not happen.": y is 1 only where the ones exceed the zeros
abbrev pub OneByMajority : Type 0
OneByMajority = (n : ℕ) (row : Row) → y_of n row ≡ 1 → seconds n 0 row < seconds n 1 row

-- Definition 6 of an exchange of a whole line, in any two rounds, whatever the marked stations enter with and send
abbrev pub Definition6 : Type 0
Definition6 =
    (S : Setting) → Fits S.n S.t S.T → (r : ℕ) (x : ℕ → ℕ) → ((i : ℕ) → Good S.n S.bad i → x i ≤ 1)
    → GradedConsensus S.n S.t S.T S.bad x (y S r x) (grade S r x)

-- the bytes of an outcome list at station i
abbrev pub value_at : List ℕ → ℕ → ℕ
value_at bytes i = at bytes (outcome_size * i)

abbrev pub grade_at : List ℕ → ℕ → ℕ
grade_at bytes i = at bytes (outcome_size * i + 1)

abbrev pub flag_at : List ℕ → ℕ → ℕ
flag_at bytes i = at bytes (outcome_size * i + 2)

abbrev pub garbled_at : List ℕ → ℕ → ℕ
garbled_at bytes i = at bytes (outcome_size * i + 3)

-- "value, grade 0 to 2, flag 0 or 1", "255 at a bad one", and "The flag is 1 when the grade is below 2."; the count is at most the number of rounds
pub record OutcomeBytes (n rounds : ℕ) (bad : ℕ → Bool) (bytes : List ℕ) : Type 0 where
  pub size : length bytes ≡ outcomes_length n
  pub good : (i : ℕ) → Good n bad i → (value_at bytes i ≤ 1) × (grade_at bytes i ≤ 2) × (flag_at bytes i ≡ flag_of (grade_at bytes i))
  pub good_count : (i : ℕ) → Good n bad i → garbled_at bytes i ≤ rounds
  pub marked_value : (i : ℕ) → i < n → bad i ≡ true → value_at bytes i ≡ 255
  pub marked_grade : (i : ℕ) → i < n → bad i ≡ true → grade_at bytes i ≡ 255
  pub marked_flag : (i : ℕ) → i < n → bad i ≡ true → flag_at bytes i ≡ 255
  pub marked_count : (i : ℕ) → i < n → bad i ≡ true → garbled_at bytes i ≡ 255

-- of the outcomes of the exchange had alone
abbrev pub ExchangeBytes : Type 0
ExchangeBytes =
    (n t T marks : ℕ) (inputs table : List ℕ) → OutcomeBytes n 2 (marked marks) (exchange_outcomes n t T marks inputs table)

-- Definition 6 of the outcome bytes of the exchange had alone
abbrev pub Definition6Alone : Type 0
Definition6Alone =
    (n t T marks : ℕ) (inputs table : List ℕ) → Fits n t T → ((i : ℕ) → Good n (marked marks) i → at inputs i ≤ 1)
    → let bytes = exchange_outcomes n t T marks inputs table in
    GradedConsensus n t T (marked marks) (at inputs) (value_at bytes) (grade_at bytes)

-- "only a marked sender's bytes are used", and "The input byte of a marked station is not looked at.": two calls that agree on the good
-- stations' inputs and on what marked stations send to good ones have the same outcomes
abbrev pub ExchangeEffect : Type 0
ExchangeEffect =
    (n t T marks : ℕ) (inputs inputs' table table' : List ℕ)
    → ((i : ℕ) → Good n (marked marks) i → at inputs i ≡ at inputs' i)
    → ((r i j : ℕ) → 1 ≤ r → r ≤ 2 → i < n → marked marks i ≡ true → Good n (marked marks) j
    → at table (place n r i j) ≡ at table' (place n r i j))
    → exchange_outcomes n t T marks inputs table ≡ exchange_outcomes n t T marks inputs' table'

-- ---- the king's word

-- b is the king's byte: at grade 0 "a station's new x is the king's ballot", but (request 2) "a king's unreadable ballot leaves a grade 0 station with its own
-- y"; "with grade 1 or 2 it is the station's own y"
pub record KingsWord (g y b : ℕ) : Type 0 where
  pub readable : b ≤ 1 → obey 0 y (read_king b) ≡ b
  pub unreadable : 1 < b → obey 0 y (read_king b) ≡ y
  pub graded : 1 ≤ g → obey g y (read_king b) ≡ y

abbrev pub KingsWordLaw : Type 0
KingsWordLaw = (g y b : ℕ) → KingsWord g y b

-- ---- the bytes of a run

-- the log has each byte at its place: "laid out like the table"
pub record LogBytes (R : Run) : Type 0 where
  pub size : length (log R) ≡ table_length R.n R.t
  pub byte : (r i j : ℕ) → 1 ≤ r → r ≤ rounds R.t → i < R.n → j < R.n
      → at (log R) (place R.n r i j) ≡ sent (setting_of R) (from_0 R.sender) R.value r i j

abbrev pub LogBytesLaw : Type 0
LogBytesLaw = (R : Run) → LogBytes R

-- the parts by which the definitions go, in document 01's own rounds: "Phase p, from 1 to t+1, has rounds 3p−1 and 3p for one graded exchange, and
-- round 3p+1, in which king p sends its y.", and p − 1 phases precede phase p
pub record PartByRounds (p : ℕ) : Type 0 where
  pub sender : part 1 ≡ from_sender
  pub first : 1 ≤ p → part (3 * p - 1) ≡ first_of (p - 1)
  pub second : 1 ≤ p → part (3 * p) ≡ second_of (p - 1)
  pub king : 1 ≤ p → part (3 * p + 1) ≡ from_king (p - 1)

abbrev pub PartByRoundsLaw : Type 0
PartByRoundsLaw = (p : ℕ) → PartByRounds p

-- what good station i sends to each j, in the same rounds: "Rounds 3t+5 and 3t+6: one more graded exchange" are phase t + 2 here, and "255 in a round
-- where it doesn't speak"
pub record SentByRounds (R : Run) (i j : ℕ) : Type 0 where
  pub sender : i + 1 ≡ R.sender → at (log R) (place R.n 1 i j) ≡ R.value
  pub not_sender : i + 1 ≢ R.sender → at (log R) (place R.n 1 i j) ≡ 255
  pub first : (p : ℕ) → 1 ≤ p → p ≤ R.t + 2
      → at (log R) (place R.n (3 * p - 1) i j) ≡ x_after (setting_of R) (from_0 R.sender) R.value (p - 1) i
  pub second : (p : ℕ) → 1 ≤ p → p ≤ R.t + 2
      → at (log R) (place R.n (3 * p) i j) ≡ z_after (setting_of R) (from_0 R.sender) R.value (p - 1) i
  pub king : (p : ℕ) → 1 ≤ p → p ≤ R.t + 1 → i + 1 ≡ p
      → at (log R) (place R.n (3 * p + 1) i j) ≡ y_after (setting_of R) (from_0 R.sender) R.value (p - 1) i
  pub not_king : (p : ℕ) → 1 ≤ p → p ≤ R.t + 1 → i + 1 ≢ p → at (log R) (place R.n (3 * p + 1) i j) ≡ 255

abbrev pub SentByRoundsLaw : Type 0
SentByRoundsLaw =
    (R : Run) → 1 ≤ R.sender → (i j : ℕ) → Good R.n (marked R.marks) i → j < R.n → SentByRounds R i j

-- what `OutcomeBytes` says, of a run's outcomes
abbrev pub OutcomeBytesLaw : Type 0
OutcomeBytesLaw = (R : Run) → OutcomeBytes R.n (rounds R.t) (marked R.marks) (outcomes R)

-- ---- what a good station makes of the last round (request 6)

-- the zeros and ones that it received in it, and what it ends with: a changeover is carried by a majority, and a balance ends with 0, grade 0 and the flag
pub record LastRound (zeros ones value grade flag : ℕ) : Type 0 where
  pub changeover : value ≡ 1 → zeros < ones
  pub balance : zeros ≡ ones → (value ≡ 0) × (grade ≡ 0) × (flag ≡ 1)

-- in a run: how many bytes of the log's last round, to station j, are v
abbrev pub last_ballots : Run → ℕ → ℕ → ℕ
last_ballots R j v = count R.n (λ i. eqb (at (log R) (place R.n (rounds R.t) i j)) v)

abbrev pub LastRoundLaw : Type 0
LastRoundLaw =
    (R : Run) → Fits R.n R.t R.T → (j : ℕ) → Good R.n (marked R.marks) j
    → let o = outcomes R in LastRound (last_ballots R j 0) (last_ballots R j 1) (value_at o j) (grade_at o j) (flag_at o j)

-- of a single station, on any rows
abbrev pub LastRow : Type 0
LastRow =
    (c : Setup) → Fits c.n c.t c.T → (v : ℕ) (rows : ℕ → List ℕ)
    → let s = after c v rows (rounds c.t) in
    let row = at (rows (rounds c.t)) in
    LastRound (count c.n (λ i. eqb (row i) 0)) (count c.n (λ i. eqb (row i) 1)) s.value s.grade (flag_of s.grade)

-- the run with another table
abbrev pub with_table : Run → List ℕ → Run
with_table R table =
    record { n = R.n; t = R.t; T = R.T; sender = R.sender; value = R.value; marks = R.marks; table = table }

-- both tables have the same bytes for round r, from i, to each good station
abbrev pub SameToGood : Run → List ℕ → ℕ → ℕ → Type 0
SameToGood R table r i =
    (j : ℕ) → Good R.n (marked R.marks) j → at R.table (place R.n r i j) ≡ at table (place R.n r i j)

-- and so in every round in which i should speak: round 1 of the sender, "rounds 3p−1 and 3p", "round 3p+1, in which king p sends its y", "Rounds 3t+5
-- and 3t+6", which are phase t + 2 here
pub record SameWhereSpoken (R : Run) (table : List ℕ) (i : ℕ) : Type 0 where
  pub sender : i + 1 ≡ R.sender → SameToGood R table 1 i
  pub first : (p : ℕ) → 1 ≤ p → p ≤ R.t + 2 → SameToGood R table (3 * p - 1) i
  pub second : (p : ℕ) → 1 ≤ p → p ≤ R.t + 2 → SameToGood R table (3 * p) i
  pub king : (p : ℕ) → 1 ≤ p → p ≤ R.t + 1 → i + 1 ≡ p → SameToGood R table (3 * p + 1) i

-- every good station sends the same in every round, and all outcomes are the same
pub record SameEffect (R R' : Run) : Type 0 where
  pub ballots : (r i j : ℕ) → 1 ≤ r → r ≤ rounds R.t → Good R.n (marked R.marks) i → j < R.n
      → at (log R) (place R.n r i j) ≡ at (log R') (place R.n r i j)
  pub results : outcomes R ≡ outcomes R'

-- "only those of a round in which it should speak have effect. The table's bytes for good senders have none.": another table has the same effect if it
-- agrees in what marked stations send to good ones where they should speak
abbrev pub TableEffect : Type 0
TableEffect =
    (R : Run) (table : List ℕ) → Fits R.n R.t R.T → 1 ≤ R.sender → R.sender ≤ R.n
    → ((i : ℕ) → i < R.n → marked R.marks i ≡ true → SameWhereSpoken R table i) → SameEffect R (with_table R table)

-- ---- what was garbled (request 4)

-- no ballot of a good station is garbled at a station that expects it: of the log's bytes, from those who should speak
abbrev pub GoodBallotsReadable : Type 0
GoodBallotsReadable =
    (R : Run) → R.value ≤ 1 → (r i j : ℕ) → 1 ≤ r → r ≤ rounds R.t → Good R.n (marked R.marks) i → j < R.n
    → speaks (from_0 R.sender) (part r) i ≡ true → is_garbled (reading (part r) (at (log R) (place R.n r i j))) ≡ false

-- and so, where no station is marked, every count is 0
abbrev pub NoneMarkedNoneGarbled : Type 0
NoneMarkedNoneGarbled =
    (R : Run) → R.value ≤ 1 → ((i : ℕ) → i < R.n → marked R.marks i ≡ false) → (j : ℕ) → j < R.n → garbled_at (outcomes R) j ≡ 0

-- a good station's count is that of the rows that the log has for it
abbrev pub CountByLog : Type 0
CountByLog =
    (R : Run) (j : ℕ) → Good R.n (marked R.marks) j
    → garbled_at (outcomes R) j ≡ count (rounds R.t) (λ m. some_garbled R.n (from_0 R.sender) (part (suc m)) (at (column R.n (log R) j (suc m))))

-- the automaton's count, after any rows, is that of these rows
abbrev pub CountAfterRows : Type 0
CountAfterRows =
    (c : Setup) (v : ℕ) (rows : ℕ → List ℕ) (m : ℕ)
    → (after c v rows m).garbled ≡ count m (λ k. some_garbled c.n c.sender_from_0 (part (suc k)) (at (rows (suc k))))

-- states that are the same but for the count
pub record SameButCount (s s' : State) : Type 0 where
  pub round_is : s.round ≡ s'.round
  pub value_is : s.value ≡ s'.value
  pub z_is : s.z ≡ s'.z
  pub grade_is : s.grade ≡ s'.grade

-- the count has no effect on anything else: such states tell the same ballot, and after the same row they are again the same but for the count. Logs, values,
-- grades and flags are those of before, whose definitions name no count
pub record CountWithoutEffect (c : Setup) (s s' : State) (row : ℕ → ℕ) : Type 0 where
  pub ballots : ballot c s ≡ ballot c s'
  pub states : SameButCount (advance c s row) (advance c s' row)

abbrev pub CountWithoutEffectLaw : Type 0
CountWithoutEffectLaw = (c : Setup) (s s' : State) (row : ℕ → ℕ) → SameButCount s s' → CountWithoutEffect c s s' row

-- ---- demand 3

abbrev pub Demand3 : Type 0
Demand3 =
    (R : Run) → Fits R.n R.t R.T → R.value ≤ 1
    → TwoThreshold 2 R.n R.t R.T (marked R.marks) (from_0 R.sender) R.value (value_at (outcomes R)) (flag_at (outcomes R))

-- f at most T, and one good station that doesn't raise its flag: all good stations decide one value. Said of whatever keeps demand 3, a run or single stations
abbrev pub UnflaggedAgree : Type 0
UnflaggedAgree =
    (values n t T : ℕ) (bad : ℕ → Bool) (sender_from_0 value : ℕ) (decides flags : ℕ → ℕ)
    → TwoThreshold values n t T bad sender_from_0 value decides flags
    → faults n bad ≤ T → (k : ℕ) → Good n bad k → flags k ≢ 1
    → (i j : ℕ) → Good n bad i → Good n bad j → decides i ≡ decides j

-- f at most T, and more than T stations that show no flag, whichever of these are bad: all good stations decide one value
abbrev pub EnoughUnflagged : Type 0
EnoughUnflagged =
    (values n t T : ℕ) (bad : ℕ → Bool) (sender_from_0 value : ℕ) (decides flags : ℕ → ℕ)
    → TwoThreshold values n t T bad sender_from_0 value decides flags
    → faults n bad ≤ T → T < count n (λ k. not (eqb (flags k) 1))
    → (i j : ℕ) → Good n bad i → Good n bad j → decides i ≡ decides j

-- more than t stations that show a flag, whichever of these are bad: f exceeds t
abbrev pub EnoughFlags : Type 0
EnoughFlags =
    (values n t T : ℕ) (bad : ℕ → Bool) (sender_from_0 value : ℕ) (decides flags : ℕ → ℕ)
    → TwoThreshold values n t T bad sender_from_0 value decides flags
    → t < count n (λ k. eqb (flags k) 1) → t < faults n bad

-- f at most T, all good stations decide one value, and more than T stations show v, whichever of these are bad: that value is v
abbrev pub EnoughShow : Type 0
EnoughShow =
    (n T : ℕ) (bad : ℕ → Bool) (decides : ℕ → ℕ)
    → faults n bad ≤ T → ((i j : ℕ) → Good n bad i → Good n bad j → decides i ≡ decides j)
    → (v : ℕ) → T < count n (λ k. eqb (decides k) v) → (i : ℕ) → Good n bad i → decides i ≡ v

-- ---- demand 2; the sentences quoted are the demand's own (docs/AUDIT.md, "What is asked")

-- "Good stations run singly on the rows they received send those ballots and reach those outcomes": station j, opened with v, on the rows
-- that it received in the run
pub record Follows (R : Run) (j v : ℕ) : Type 0 where
  pub running_before : (m : ℕ) → m < rounds R.t → result (setup R j) (after (setup R j) v (column R.n (log R) j) m) ≡ running (m + 1)
  pub ballots : (m k : ℕ) → m < rounds R.t → k < R.n
      → ballot (setup R j) (after (setup R j) v (column R.n (log R) j) m) ≡ at (log R) (place R.n (m + 1) j k)
  pub done_after : result (setup R j) (after (setup R j) v (column R.n (log R) j) (rounds R.t))
      ≡ done (value_at (outcomes R) j) (grade_at (outcomes R) j) (flag_at (outcomes R) j) (garbled_at (outcomes R) j)

-- the value that a station is opened with "matters only at the sender"
abbrev pub StationFollowsRun : Type 0
StationFollowsRun =
    (R : Run) → Fits R.n R.t R.T → 1 ≤ R.sender → R.sender ≤ R.n
    → (j v : ℕ) → Good R.n (marked R.marks) j → (j ≡ from_0 R.sender → v ≡ R.value) → Follows R j v

-- "single good stations put together with the bad ones' bytes": bytes in which each marked sender has the table's, and each good one what its
-- single station, opened with v i, sends when it is fed its rows of these same bytes
pub record PutTogether (R : Run) (v : ℕ → ℕ) (bytes : List ℕ) : Type 0 where
  pub size : length bytes ≡ table_length R.n R.t
  pub from_marked : (r i j : ℕ) → 1 ≤ r → r ≤ rounds R.t → i < R.n → j < R.n → marked R.marks i ≡ true
      → at bytes (place R.n r i j) ≡ at R.table (place R.n r i j)
  pub from_good : (r i j : ℕ) → 1 ≤ r → r ≤ rounds R.t → i < R.n → j < R.n → marked R.marks i ≡ false
      → at bytes (place R.n r i j) ≡ ballot (setup R i) (after (setup R i) (v i) (column R.n bytes i) (r - 1))

-- ".. give the whole run": such bytes are the log, the log is such, and the stations' results are the outcomes
pub record MakeRun (R : Run) (v : ℕ → ℕ) : Type 0 where
  pub the_log : (bytes : List ℕ) → PutTogether R v bytes → bytes ≡ log R
  pub the_outcomes : (bytes : List ℕ) → PutTogether R v bytes → (i : ℕ) → Good R.n (marked R.marks) i
      → result (setup R i) (after (setup R i) (v i) (column R.n bytes i) (rounds R.t))
      ≡ done (value_at (outcomes R) i) (grade_at (outcomes R) i) (flag_at (outcomes R) i) (garbled_at (outcomes R) i)
  pub log_is_such : PutTogether R v (log R)

abbrev pub StationsMakeRun : Type 0
StationsMakeRun =
    (R : Run) → Fits R.n R.t R.T → 1 ≤ R.sender → R.sender ≤ R.n
    → (v : ℕ → ℕ) → v (from_0 R.sender) ≡ R.value → MakeRun R v

-- ---- one station, on any rows

-- "It is done after exactly R accepted rows.": opened with any value, it is running after fewer rows, whatever they hold, and done after R
pub record DoneAfter (c : Setup) (v : ℕ) (rows : ℕ → List ℕ) : Type 0 where
  pub round_is : (m : ℕ) → (after c v rows m).round ≡ m + 1
  pub running_before : (m : ℕ) → m < rounds c.t → result c (after c v rows m) ≡ running (m + 1)
  pub done_after : let s = after c v rows (rounds c.t) in result c s ≡ done s.value s.grade (flag_of s.grade) s.garbled

abbrev pub DoneAfterRows : Type 0
DoneAfterRows = (c : Setup) (v : ℕ) (rows : ℕ → List ℕ) → DoneAfter c v rows

-- "a value, which matters only at the sender": any other station, opened with v or with w, is silent in round 1 and from its first row on
-- the same; so it tells the same ballots and answers the same results, on any rows
pub record ValueWithoutEffect (c : Setup) (v w : ℕ) (rows : ℕ → List ℕ) : Type 0 where
  pub silent_at_first : (ballot c (after c v rows 0) ≡ 255) × (ballot c (after c w rows 0) ≡ 255)
  pub states : (m : ℕ) → after c v rows (suc m) ≡ after c w rows (suc m)
  pub ballots : (m : ℕ) → ballot c (after c v rows m) ≡ ballot c (after c w rows m)
  pub results : (m : ℕ) → result c (after c v rows m) ≡ result c (after c w rows m)

abbrev pub ValueAtSender : Type 0
ValueAtSender = (c : Setup) → c.own_from_0 ≢ c.sender_from_0 → (v w : ℕ) (rows : ℕ → List ℕ) → ValueWithoutEffect c v w rows
