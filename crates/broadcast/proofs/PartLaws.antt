-- The rounds of a broadcast by their parts: round 1, then three rounds for each p. Assumes nothing.
use Prim.Native.Nat.{ℕ, zero, suc, ◌+◌, ◌-◌, ◌*◌, ◌/◌, ◌%◌, ◌≤◌, ◌<◌}
use mathlib.Core.Path.{◌≡◌, refl}
use native.Mathlib.Omega.{arith}
use borrow.Author.Tests.{ne_eqb}
use Rattle.broadcast.specs.Broadcast.{from_sender, first_of, second_of, from_king, part, first_round}
use Rattle.broadcast.specs.Theorems.{PartByRounds}

pub part_sender : part 1 ≡ from_sender
unfolding part
part_sender = refl

pub part_first : (p : ℕ) → part (first_round p) ≡ first_of p
unfolding part first_round
part_first p =
    let m : (3 * (p + 1) - 1) % 3 ≡ 2 = omega arith in
    let q : (3 * (p + 1) - 1) / 3 ≡ p = omega arith in
    rw (ne_eqb (3 * (p + 1) - 1) 1 (omega arith), m, q)

pub part_second : (p : ℕ) → part (first_round p + 1) ≡ second_of p
unfolding part first_round
part_second p =
    let m : (3 * (p + 1) - 1 + 1) % 3 ≡ 0 = omega arith in
    let q : (3 * (p + 1) - 1 + 1) / 3 - 1 ≡ p = omega arith in
    rw (ne_eqb (3 * (p + 1) - 1 + 1) 1 (omega arith), m, q)

pub part_king : (p : ℕ) → part (first_round p + 2) ≡ from_king p
unfolding part first_round
part_king p =
    let m : (3 * (p + 1) - 1 + 2) % 3 ≡ 1 = omega arith in
    let q : (3 * (p + 1) - 1 + 2) / 3 - 1 ≡ p = omega arith in
    rw (ne_eqb (3 * (p + 1) - 1 + 2) 1 (omega arith), m, q)

-- the round after a phase's last is the next phase's first
pub next_first : (p : ℕ) → first_round p + 2 + 1 ≡ first_round (suc p)
unfolding first_round
next_first p = omega arith

pub first_is : (p : ℕ) → first_round p ≡ 3 * p + 2
unfolding first_round
first_is p = omega arith

-- every round is round 1 or one of the three for some p
pub by_parts : (P : ℕ → Type 0) → P 1 → ((p : ℕ) → P (first_round p)) → ((p : ℕ) → P (first_round p + 1)) → ((p : ℕ) → P (first_round p + 2))
    → (r : ℕ) → 1 ≤ r → P r
unfolding first_round
by_parts P one first second king zero h = absurd (omega arith)
by_parts P one first second king (suc zero) h = one
by_parts P one first second king (suc (suc m)) h = go (m / 3) (m % 3) (omega arith) (omega arith)
  where
    go : (p d : ℕ) → m ≡ 3 * p + d → d < 3 → P (suc (suc m))
    go p zero e l = let q : 3 * (p + 1) - 1 ≡ suc (suc m) = omega arith in rw q at (first p)
    go p (suc zero) e l = let q : 3 * (p + 1) - 1 + 1 ≡ suc (suc m) = omega arith in rw q at (second p)
    go p (suc (suc zero)) e l = let q : 3 * (p + 1) - 1 + 2 ≡ suc (suc m) = omega arith in rw q at (king p)
    go p (suc (suc (suc d))) e l = absurd (omega arith)

-- ---- in the document's rounds

pub phase_first : (p : ℕ) → 1 ≤ p → 3 * p - 1 ≡ first_round (p - 1)
phase_first p h = omega (arith, first_is (p - 1))

pub phase_second : (p : ℕ) → 1 ≤ p → 3 * p ≡ first_round (p - 1) + 1
phase_second p h = omega (arith, first_is (p - 1))

pub phase_king : (p : ℕ) → 1 ≤ p → 3 * p + 1 ≡ first_round (p - 1) + 2
phase_king p h = omega (arith, first_is (p - 1))

pub part_by_rounds : (p : ℕ) → PartByRounds p
part_by_rounds p = record {
  sender = part_sender;
  first = λ h. rw (phase_first p h) (part_first (p - 1));
  second = λ h. rw (phase_second p h) (part_second (p - 1));
  king = λ h. rw (phase_king p h) (part_king (p - 1));
}
