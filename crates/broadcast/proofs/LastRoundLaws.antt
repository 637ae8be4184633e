-- What a station makes of the last round, the second of the last exchange: it ends with that row's y and grade. Assumes nothing.
use Prim.Native.Nat.{ℕ, suc, ◌+◌, ◌*◌, ◌<◌}
use mathlib.Core.Path.{◌≡◌, refl, sym, ◌∙◌}
use native.Mathlib.Omega.{arith}
use lib.Dec.{eqb}
use Rattle.line.specs.Count.{count}
use Rattle.line.specs.Line.{Fits, from_0, rounds, place}
use Rattle.line.specs.Marks.{marked}
use Rattle.broadcast.specs.Exchange.{Row, seconds, y_of, grade_of, flag_of, second_row, y, grade}
use Rattle.broadcast.specs.Broadcast.{second_of, part, phases, first_round, x_after, y_after, grade_after, value_of, final_grade}
use Rattle.broadcast.specs.Station.{next, moved, taken, at, after}
use Rattle.broadcast.specs.Bytes.{setting, Run, setting_of, log, outcomes}
use Rattle.broadcast.specs.Guarantees.{Good}
use Rattle.broadcast.specs.Theorems.{value_at, grade_at, LastRound, LastRoundLaw, LastRow}
use Rattle.broadcast.proofs.TallyLaws.{blanks_for_neither, balance, one_by_majority, flag_means}
use Rattle.broadcast.proofs.RowLaws.{seconds_same, y_same}
use Rattle.broadcast.proofs.PartLaws.{part_second, first_is}
use Rattle.broadcast.proofs.RoundLaws.{advance_by, after_round}
use Rattle.broadcast.proofs.SaidLaws.{sent_second}
use Rattle.broadcast.proofs.BytesLaws.{log_at, good_value, good_grade, outcome_ranges_of}

-- the last round is the second of the exchange that all phases precede
last_is : (t : ℕ) → rounds t ≡ first_round (t + 1) + 1
last_is t = omega (arith, first_is (t + 1))

-- the grade that a row gives
grade_by : ℕ → ℕ → ℕ → Row → ℕ
grade_by n t T row = grade_of n t T (seconds n (y_of n row) row)

by_row : (n t T : ℕ) → Fits n t T → (row : Row)
    → LastRound (count n (λ i. eqb (row i) 0)) (count n (λ i. eqb (row i) 1)) (y_of n row) (grade_by n t T row) (flag_of (grade_by n t T row))
unfolding grade_by
by_row n t T fits row =
    let zeros = blanks_for_neither n 0 row (omega arith) in
    let ones = blanks_for_neither n 1 row (omega arith) in
    record {
      changeover = λ e. rw (zeros, ones) at (one_by_majority n row e);
      balance = λ e.
          let b = balance n t T fits row (zeros ∙ e ∙ sym ones) in
          (b.value, b.grade, (flag_means _).0 (omega (arith, b.grade)));
    }

-- ---- in a run

module _ (R : Run) (j : ℕ) (good : Good R.n (marked R.marks) j) where
  -- the row that station j receives in the last round
  last_row : Row
  last_row i = at (log R) (place R.n (rounds R.t) i j)

  rows_are : (i : ℕ) → i < R.n
      → last_row i ≡ second_row (setting_of R) (first_round (R.t + 1)) (x_after (setting_of R) (from_0 R.sender) R.value (R.t + 1)) j i
  unfolding last_row
  rows_are i h =
      log_at R (rounds R.t) i j (omega arith) (omega arith) h good.0
      ∙ rw (last_is R.t) (sent_second (setting_of R) (from_0 R.sender) R.value (R.t + 1) i j)

  value_is : value_at (outcomes R) j ≡ y_of R.n last_row
  unfolding outcomes setting phases value_of y_after y
  value_is = good_value (setting_of R) _ _ _ _ j good ∙ sym (y_same R.n last_row _ rows_are)

  grade_is : grade_at (outcomes R) j ≡ grade_by R.n R.t R.T last_row
  unfolding outcomes setting phases final_grade grade_after grade y grade_by
  grade_is =
      good_grade (setting_of R) _ _ _ _ j good
      ∙ sym (rw (y_same R.n last_row _ rows_are, seconds_same R.n last_row _ rows_are) refl)

pub last_round : LastRoundLaw
unfolding last_row
last_round R fits j good =
    rw (((outcome_ranges_of R).good j good).2, value_is R j good, grade_is R j good) (by_row R.n R.t R.T fits (last_row R j good))

-- ---- of a single station

pub last_row_of : LastRow
unfolding taken moved next grade_by after
last_row_of c fits v rows =
    let e : rounds c.t ≡ suc (3 * c.t + 5) = omega arith in
    let s = after c v rows (3 * c.t + 5) in
    let p : part s.round ≡ second_of (c.t + 1)
    = rw (after_round c v rows (3 * c.t + 5), sym e, last_is c.t) (part_second (c.t + 1)) in
    rw (e, advance_by c s (at (rows (suc (3 * c.t + 5)))) p) (by_row c.n c.t c.T fits (at (rows (suc (3 * c.t + 5)))))
