-- Tables, logs and outcomes as lists of bytes (document 01, "Names", "The graded exchange" and "The broadcast"; document 02, request 4).
use Rattle.std.specs.Prelude.{ℕ, zero, suc, ◌+◌, ◌/◌, ◌%◌, List, [], ◌∷◌, eqb, if◌then◌else◌}
use Rattle.line.specs.Line.{from_0, table_length, outcome_size, outcomes_length, place}
use Rattle.line.specs.Marks.{marked}
use Rattle.broadcast.specs.Exchange.{Setting, y, grade, flag_of}
use Rattle.broadcast.specs.Broadcast.{value_of, final_grade, final_flag, sent}
use Rattle.broadcast.specs.Garbled.{garbled_rounds, garbled_alone}
use Rattle.broadcast.specs.Station.{Setup, at}

-- the list of f 0, f 1, .. f (m - 1)
unfoldable pub tabulate : ℕ → (ℕ → ℕ) → List ℕ
tabulate zero f = []
tabulate (suc m) f = f 0 ∷ tabulate m (λ k. f (suc k))

-- the setting that a line, its marks and a table of bytes make
unfoldable pub setting : ℕ → ℕ → ℕ → ℕ → List ℕ → Setting
setting n t T marks table =
    record { n = n; t = t; T = T; bad = marked marks; table = λ r i j. at table (place n r i j) }

-- "value, grade 0 to 2, flag 0 or 1", and the count (request 4: "The outcome becomes four bytes a station"): byte d of a good station's
unfoldable pub pick : ℕ → ℕ → ℕ → ℕ → ℕ → ℕ
pick value grade flag garbled d = if eqb d 0 then value else (if eqb d 1 then grade else (if eqb d 2 then flag else garbled))

-- "255 at a bad one"
unfoldable pub outcome_byte : Setting → (ℕ → ℕ) → (ℕ → ℕ) → (ℕ → ℕ) → (ℕ → ℕ) → ℕ → ℕ
outcome_byte S value grade flag garbled k =
    let i = k / outcome_size in if S.bad i then 255 else pick (value i) (grade i) (flag i) (garbled i) (k % outcome_size)

unfoldable pub outcome_bytes : Setting → (ℕ → ℕ) → (ℕ → ℕ) → (ℕ → ℕ) → (ℕ → ℕ) → List ℕ
outcome_bytes S value grade flag garbled = tabulate (outcomes_length S.n) (outcome_byte S value grade flag garbled)

-- ---- the graded exchange had alone

-- "an input byte for each station, a ballot table of 2·n·n bytes laid out like a run table [..], outcomes of which the flag is 1 when the
-- grade is below 2": the exchange in rounds 1 and 2
unfoldable pub exchange_outcomes : ℕ → ℕ → ℕ → ℕ → List ℕ → List ℕ → List ℕ
exchange_outcomes n t T marks inputs table =
    let S = setting n t T marks table in
    let x = at inputs in
    outcome_bytes S (y S 1 x) (grade S 1 x) (λ i. flag_of (grade S 1 x i)) (garbled_alone S x)

-- ---- the rehearsal of a broadcast

-- what a rehearsal is handed, in document 01's own numbers: the sender is from 1 to n
pub record Run : Type 0 where
  pub n : ℕ
  pub t : ℕ
  pub T : ℕ
  pub sender : ℕ
  pub value : ℕ
  pub marks : ℕ
  pub table : List ℕ

abbrev pub setting_of : Run → Setting
setting_of R = setting R.n R.t R.T R.marks R.table

-- "The rehearsal writes a log, laid out like the table.": the byte at k is that of the round, sender and receiver whose place k is
unfoldable pub log_byte : Run → ℕ → ℕ
log_byte R k = let n = R.n in sent (setting_of R) (from_0 R.sender) R.value (k / n / n + 1) (k / n % n) (k % n)

unfoldable pub log : Run → List ℕ
log R = tabulate (table_length R.n R.t) (log_byte R)

unfoldable pub outcomes : Run → List ℕ
outcomes R =
    let S = setting_of R in
    let i = from_0 R.sender in
    let v = R.value in
    outcome_bytes S (value_of S i v) (final_grade S i v) (final_flag S i v) (garbled_rounds S i v)

-- ---- the single station in a run

-- station j of a run, as it is opened
unfoldable pub setup : Run → ℕ → Setup
setup R j = record { n = R.n; t = R.t; T = R.T; sender_from_0 = from_0 R.sender; own_from_0 = j }

-- the row that station j receives in round r, where the bytes sent in all rounds are laid out like a table
unfoldable pub column : ℕ → List ℕ → ℕ → ℕ → List ℕ
column n bytes j r = tabulate n (λ i. at bytes (place n r i j))
