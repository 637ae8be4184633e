-- Laws of the line: a number that is there or not, one station more, and the line's length. Assumes nothing.
use Prim.Native.Nat.{ℕ, zero, suc, ◌+◌, ◌-◌, ◌*◌, ◌≤◌, ◌<◌, min}
use Rattle.refusal.specs.declared.cause.Cause.{Cause}
use Rattle.std.specs.declared.result.Result.{Result}
use Rattle.std.specs.declared.result.Result.TheVariants.{Ok, Err}
use mathlib.Core.Path.{◌≡◌, refl}
use mathlib.Core.Bool.{Bool, true, false}
use mathlib.Core.List.{[], ◌∷◌, ◌++◌, append-nil}
use mathlib.Core.Logic.{◌⊎◌, inl, inr}
use native.Mathlib.Omega.{arith}
use native.Mathlib.Nat.{le_of_eq}
use native.Mathlib.Numerals.{add-one}
use lib.ListN.{length, length-append}
use Rattle.std.specs.Prelude.{if◌then◌else◌}
use Rattle.line.specs.Marks.{marked}
use Rattle.line.proofs.CountLaws.{le_or_lt}
use Rattle.refusal.specs.Cause.{number}
use Rattle.text.specs.Decimal.{space, decimal, numeral}
use Rattle.text.proofs.DecimalLaws.{one_digit, two_digits, decimal_numeral}
use Rattle.listing_lines.proofs.LineLaws.{refusal_short}
use Rattle.finding.specs.Finding.{number_if, numbers, broke_line, finding}

-- ---- station after station

pub numbers_none : (marks : ℕ) → numbers marks 0 ≡ []
unfolding numbers
numbers_none marks = refl

pub numbers_more : (marks i : ℕ) → marked marks i ≡ true → numbers marks (i + 1) ≡ numbers marks i ++ space ∷ numeral (i + 1)
unfolding numbers number_if
numbers_more marks i e = rw (add-one i, e, add-one i)

pub numbers_same : (marks i : ℕ) → marked marks i ≡ false → numbers marks (i + 1) ≡ numbers marks i
unfolding numbers number_if
numbers_same marks i e = rw (add-one i, e, append-nil)

-- ---- how long it is: a space and one digit for the numbers to 9, two for the others

number_short : (marks i d : ℕ) → i < 32 → length (decimal (i + 1)) ≤ d → length (number_if marks i) ≤ 1 + d
unfolding number_if
number_short marks i d h l = go (marked marks i)
  where
    go : (b : Bool) → length (if b then space ∷ numeral (i + 1) else []) ≤ 1 + d
    go true = rw (← decimal_numeral (i + 1) (omega arith)) (omega arith)
    go false = omega arith

numbers_short : (marks m : ℕ) → m ≤ 32 → length (numbers marks m) ≤ 3 * m - min m 9
unfolding numbers
numbers_short marks zero h = omega arith
numbers_short marks (suc m) h =
    simp length-append (go (le_or_lt 9 m) (numbers_short marks m (omega arith)))
  where
    go : (9 ≤ m) ⊎ (m < 9) → length (numbers marks m) ≤ 3 * m - min m 9
        → length (numbers marks m) + length (number_if marks m) ≤ 3 * suc m - min (suc m) 9
    go (inl l) ih = omega (arith, number_short marks m 2 h (two_digits (m + 1) (omega arith)))
    go (inr l) ih = omega (arith, number_short marks m 1 h (le_of_eq (one_digit (m + 1) (omega arith))))

pub finding_short : (answer : Result ℕ Cause) → length (finding answer) ≤ 93
unfolding broke_line
finding_short (Ok marks) = simp length-append (omega (arith, numbers_short marks 32 (omega arith)))
finding_short (Err c) = omega (arith, refusal_short (number c))
