-- `walk::place` meets its contract: what is counted from 1 is taken off.
use native.Mathlib.Omega.{arith}
use Prim.Native.Nat.{ℕ, ◌+◌, ◌*◌, ◌-◌, ◌≤◌}
use mathlib.Core.Path.{◌≡◌}
use native.Mathlib.Nat.{add-mul, mul_assoc, add_assoc}
use Rattle.line.specs.Line.{rounds, place}
use Rattle.line.proofs.LineLaws.{next_row}
use Rattle.reader.specs.Loops.{place_by}
use Rattle.reader.proofs.walk.place.Goals as goal

-- counted from 1, and from 0

counted : (n q round from to : ℕ) → 1 ≤ round → 1 ≤ from → 1 ≤ to
    → ((q + round) * n + from) * n + to ≡ ((q + (round - 1)) * n + (from - 1)) * n + (to - 1) + (n * n + n + 1)
counted n q round from to h k l =
    let x = q + (round - 1) in
    let y = x * n + (from - 1) in
    let a : q + round ≡ x + 1 = omega arith in
    let b : x * n + n + from ≡ y + (n + 1) = omega arith in
    rw (a, next_row x n, b, add-mul y (n + 1) n, next_row n n) (omega arith)

-- the rounds of the bits before are so many tables

place-by-bit : (n last bit round i j : ℕ) → ((bit * last + (round - 1)) * n + i) * n + j ≡ bit * (last * n * n) + place n round i j
unfolding place
place-by-bit n last bit round i j =
    rw (
      add-mul (bit * last) (round - 1) n,
      mul_assoc bit last n,
      add_assoc (bit * (last * n)) ((round - 1) * n) i,
      add-mul (bit * (last * n)) ((round - 1) * n + i) n,
      mul_assoc bit (last * n) n,
      add_assoc (bit * (last * n * n)) (((round - 1) * n + i) * n) j,
    )

pub returns : goal.returns
unfolding place_by
returns c =
    let l = c.args.line in
    let r = c.args.«record» in
    let e = counted l.n (r.bit * rounds l.t) r.round r.from r.to c.requires.0 c.requires.1 c.requires.2 in
    let p = place-by-bit l.n (rounds l.t) r.bit r.round (r.from - 1) (r.to - 1) in
    rw (c.from-n.ensures, c.from-bit.ensures, c.from-round.ensures, c.from-from.ensures, c.from-to.ensures, c.rounds.ensures) (omega arith)
