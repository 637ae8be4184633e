-- `numbers` meets its contract.
use Rattle.layout.specs.Layout.{byte, two}
use Rattle.layout.specs.Numbers.{numbers_from}
use native.Mathlib.Omega.{arith}
use Prim.Native.Nat.{◌+◌}
use mathlib.Core.Path.{◌≡◌}
use Rattle.layout.proofs.numbers.Goals as goal

pub returns : goal.returns
unfolding numbers_from byte two
returns c =
    let at = c.args.at in
    let next : at + 4 + 1 ≡ at + 5 = omega arith in
    cc
