-- Laws of a sheet's layout: a record lies in the sheet, and its numbers are the definitions'. Assumes nothing.
use Prim.Native.Nat.{ℕ, ◌+◌, ◌≤◌}
use mathlib.Core.Path.{◌≡◌}
use mathlib.Core.List.{List}
use native.Mathlib.Omega.{arith}
use lib.ListN.{length}
use Rattle.layout.specs.Layout.{records, start, round, from, to, ballot, next, bit, rest}
use Rattle.layout.specs.Chain.{Record}
use Rattle.layout.specs.Numbers.{numbers_from, record_at}
use Rattle.layout.proofs.ChainLaws.{record_true}

module _ (s : List ℕ) (i : ℕ) where
  pub record_inside : Record s i → start i + 8 ≤ length s
  unfolding start records
  record_inside r = omega (arith, r.low, r.high)

  -- the numbers handed on are the definitions'
  pub numbers_there : Record s i → record_at s i ≡ numbers_from s (start i)
  unfolding record_at
  numbers_there r = rw (record_true s i r)

  module _ (r : Record s i) where
    pub round_is : (record_at s i).round ≡ round s i
    unfolding round numbers_from
    round_is = rw (numbers_there r)

    pub from_is : (record_at s i).from ≡ from s i
    unfolding from numbers_from
    from_is = rw (numbers_there r)

    pub to_is : (record_at s i).to ≡ to s i
    unfolding to numbers_from
    to_is = rw (numbers_there r)

    pub ballot_is : (record_at s i).ballot ≡ ballot s i
    unfolding ballot numbers_from
    ballot_is = rw (numbers_there r)

    pub next_is : (record_at s i).next ≡ next s i
    unfolding next numbers_from
    next_is = rw (numbers_there r)

    pub bit_is : (record_at s i).bit ≡ bit s i
    unfolding bit numbers_from
    bit_is = rw (numbers_there r)

    pub rest_is : (record_at s i).rest ≡ rest s i
    unfolding rest numbers_from
    rest_is = rw (numbers_there r)
