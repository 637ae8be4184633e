-- Laws of an outcome's bytes: all that depends on their number. Assumes nothing.
use Prim.Native.Nat.{ℕ, zero, suc, ◌+◌, ◌*◌}
use mathlib.Core.Path.{◌≡◌, ap}
use mathlib.Core.Bool.{true}
use mathlib.Core.List.{List}
use native.Mathlib.Omega.{arith}
use borrow.Author.Tests.{eqb-true, eq-eqb}
use Rattle.line.proofs.CountLaws.{both_true, both_hold}
use Rattle.broadcast.specs.Exchange.{flag_of}
use Rattle.broadcast.specs.Station.{State, Result, running, done}
use Rattle.broadcast.specs.Theorems.{value_at, grade_at, flag_at, garbled_at}
use Rattle.line.specs.Line.{outcome_size}
use Rattle.rules.specs.Rules.{outcome_at, outcome_is}
use Rattle.rules.specs.Theorems.{SameOutcome}

-- the fields of an answer
value_in : Result → ℕ
value_in (running r) = 0
value_in (done v g f c) = v

grade_in : Result → ℕ
grade_in (running r) = 0
grade_in (done v g f c) = g

flag_in : Result → ℕ
flag_in (running r) = 0
flag_in (done v g f c) = f

garbled_in : Result → ℕ
garbled_in (running r) = 0
garbled_in (done v g f c) = c

same_done : {v w g h f k c e : ℕ} → v ≡ w → g ≡ h → f ≡ k → c ≡ e → done v g f c ≡ done w h k e
same_done a b c d = rw (a, b, c, d)

-- what a done station answers
abbrev pub ending : State → Result
ending s = done s.value s.grade (flag_of s.grade) s.garbled

-- a done station's answer is the outcome at i if the test says so, and only then
pub outcome_true : (s : State) (bytes : List ℕ) (i : ℕ) → outcome_is s bytes i ≡ true → ending s ≡ outcome_at bytes i
unfolding outcome_is outcome_at
outcome_true s bytes i e =
    let (a, r) = both_true _ _ e in
    let (b, q) = both_true _ _ r in
    let (c, d) = both_true _ _ q in
    same_done (eqb-true _ (value_at bytes i) a) (eqb-true _ (grade_at bytes i) b) (eqb-true _ (flag_at bytes i) c) (eqb-true _ (garbled_at bytes i) d)

pub outcome_hold : (s : State) (bytes : List ℕ) (i : ℕ) → ending s ≡ outcome_at bytes i → outcome_is s bytes i ≡ true
unfolding outcome_is outcome_at value_in grade_in flag_in garbled_in
outcome_hold s bytes i e =
    both_hold _ _ (eq-eqb _ _ (ap value_in e))
    (both_hold _ _ (eq-eqb _ _ (ap grade_in e)) (both_hold _ _ (eq-eqb _ _ (ap flag_in e)) (eq-eqb _ _ (ap garbled_in e))))

-- the same outcome is the same bytes
pub outcome_bytes_same : (bytes bytes' : List ℕ) (i : ℕ) → outcome_at bytes i ≡ outcome_at bytes' i → SameOutcome bytes bytes' i
unfolding outcome_at value_in grade_in flag_in garbled_in
outcome_bytes_same bytes bytes' i e zero l = let z : outcome_size * i + 0 ≡ outcome_size * i = omega arith in rw z (ap value_in e)
outcome_bytes_same bytes bytes' i e (suc zero) l = ap grade_in e
outcome_bytes_same bytes bytes' i e (suc (suc zero)) l = ap flag_in e
outcome_bytes_same bytes bytes' i e (suc (suc (suc zero))) l = ap garbled_in e
outcome_bytes_same bytes bytes' i e (suc (suc (suc (suc d)))) l = absurd (omega arith)

pub outcome_from_bytes : (bytes bytes' : List ℕ) (i : ℕ) → SameOutcome bytes bytes' i → outcome_at bytes i ≡ outcome_at bytes' i
unfolding outcome_at
outcome_from_bytes bytes bytes' i h =
    let z : outcome_size * i + 0 ≡ outcome_size * i = omega arith in
    let a : value_at bytes i ≡ value_at bytes' i = rw z at (h 0 (omega arith)) in
    rw (a, h 1 (omega arith), h 2 (omega arith), h 3 (omega arith))

-- a done station's outcome has its grade
pub grade_ended : (s : State) (bytes : List ℕ) (i : ℕ) → ending s ≡ outcome_at bytes i → s.grade ≡ grade_at bytes i
unfolding outcome_at grade_in
grade_ended s bytes i e = ap grade_in e
