-- `ends_as` meets its contract.
use native.Mathlib.Omega.{arith}
use Prim.Native.Nat.{◌+◌, ◌-◌}
use mathlib.Core.Path.{◌≡◌}
use Rattle.checker.proofs.MarkLaws.{ends_by_bytes}
use Rattle.checker.proofs.ends_as.Goals as goal

pub returns : goal.returns
returns c =
    let four : c.args.k + 4 - c.args.k ≡ 4 = omega arith in
    rw (c.eq.ensures, four, c.flag.ensures) (ends_by_bytes c.args.value c.args.grade c.args.garbled c.args.outcomes.now c.args.k c.requires)
