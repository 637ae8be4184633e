-- Demand 3 of a recipe number, from demand 3 of each bit. Two numbers that differ, differ in a bit, and that bit's run has everybody flag. Assumes
-- nothing.
use Prim.Native.Nat.{ℕ, ◌^◌, ◌≤◌, ◌<◌}
use mathlib.Core.Path.{◌≡◌}
use mathlib.Core.Bool.{Bool}
use mathlib.Core.Logic.{◌⊎◌, inl, inr, ◌≢◌}
use native.Mathlib.Omega.{arith}
use Rattle.line.specs.Line.{Fits, from_0}
use Rattle.line.specs.Marks.{marked, faults}
use Rattle.line.specs.Width.{bits, bit_of}
use Rattle.line.proofs.WidthLaws.{bit_small}
use Rattle.broadcast.specs.Bytes.{setting, outcomes}
use Rattle.broadcast.specs.Guarantees.{Good, TwoThreshold}
use Rattle.broadcast.specs.Theorems.{value_at, flag_at}
use Rattle.broadcast.proofs.BytesLaws.{good_value, good_flag, same_two_threshold}
use Rattle.broadcast.proofs.Theorems.{demand_3}
use Rattle.number.specs.Digits.{number_of, any}
use Rattle.number.specs.Numbers.{NumberRun, bit_run, bit_outcomes, numbers, flags, stations, gathered, number_outcomes}
use Rattle.number.specs.Theorems.{Demand3OfNumbers}
use Rattle.number.proofs.DigitLaws.{number_same, number_below, rebuilt, agree_or_not, any_none, any_one, any_because, any_small}

bit_of_two : {d : ℕ} → d < 2 → d ≤ 1
bit_of_two h = omega arith

-- ---- w broadcasts with the same marks and sender: D i b is what station i decides in that of bit b, F i b its flag

module _ (n t T : ℕ) (bad : ℕ → Bool) (sender w : ℕ) (v : ℕ → ℕ) (D F : ℕ → ℕ → ℕ)
    (each : (b : ℕ) → b < w → TwoThreshold 2 n t T bad sender (v b) (λ i. D i b) (λ i. F i b)) where
  pub together : TwoThreshold (2 ^ w) n t T bad sender (number_of w v) (λ i. number_of w (D i)) (λ i. any w (F i))
  together = record {
    range = λ i gi. (number_below w (D i) (λ b l. bit_of_two ((each b l).range i gi).0), any_small w (F i));
    agreement = λ f i j gi gj. number_same w (D i) (D j) (λ b l. (each b l).agreement f i j gi gj);
    no_flag = λ f i gi. any_none w (F i) (λ b l. (each b l).no_flag f i gi);
    extended_validity = λ f gs i gi. number_same w (D i) v (λ b l. (each b l).extended_validity f gs i gi);
    consistency_detection = λ f i j gi gj differ k gk. flagged f i j gi gj differ k gk (agree_or_not w (D i) (D j));
    flag_soundness = λ i gi e. let (b, l, one) = any_because w (F i) e in (each b l).flag_soundness i gi one;
  }
    where
      flagged : faults n bad ≤ T → (i j : ℕ) → Good n bad i → Good n bad j → number_of w (D i) ≢ number_of w (D j) → (k : ℕ) → Good n bad k
          → ((b : ℕ) → b < w → D i b ≡ D j b) ⊎ ((b : ℕ) × (b < w) × (D i b ≢ D j b)) → any w (F k) ≡ 1
      flagged f i j gi gj differ k gk (inl same) = absurd (differ (number_same w (D i) (D j) same))
      flagged f i j gi gj differ k gk (inr (b, l, other)) =
          any_one w (F k) b l ((each b l).consistency_detection f i j gi gj other k gk)

-- ---- of a run's bytes

module _ (N : NumberRun) (fits : Fits N.n N.t N.T) (small : N.number < 2 ^ bits N.w) where
  of_bits : TwoThreshold (2 ^ bits N.w) N.n N.t N.T (marked N.marks) (from_0 N.sender) N.number
      (numbers (bits N.w) (bit_outcomes N)) (flags (bits N.w) (bit_outcomes N))
  unfolding bit_run bit_outcomes numbers flags
  of_bits =
      rw (rebuilt (bits N.w) N.number small) at
      (together N.n N.t N.T (marked N.marks) (from_0 N.sender) (bits N.w) (bit_of N.number)
      (λ i b. value_at (outcomes (bit_run N b)) i) (λ i b. flag_at (outcomes (bit_run N b)) i)
      (λ b l. demand_3 (bit_run N b) fits (bit_small N.number b)))

pub demand_3_number : Demand3OfNumbers
unfolding number_outcomes gathered stations setting
demand_3_number N fits small =
    same_two_threshold (2 ^ bits N.w) N.n N.t N.T (marked N.marks) (from_0 N.sender) N.number _ _ _ _
    (good_value (stations N.n N.marks) _ _ _ _) (good_flag (stations N.n N.marks) _ _ _ _)
    (of_bits N fits small)
