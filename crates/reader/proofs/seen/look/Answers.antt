-- `seen::look` meets its contract: the place was seen, or is seen from now on.
use native.Mathlib.Omega.{arith}
use Prim.Native.Nat.{◌<◌}
use mathlib.Core.Path.{refl, sym, ◌∙◌}
use Prim.Native.Nat.{◌%◌}
use native.Mathlib.Nat.{one-mul}
use lib.Pow.{shl_exact}
use Rattle.refusal.proofs.VerdictLaws.{refused_true, refused_false}
use Rattle.reader.specs.Loops.{looked, is_seen, with_place}
use Rattle.reader.proofs.seen.look.Goals as goal

pub returns-then-is_marked : goal.returns-then-is_marked
unfolding looked is_seen
returns-then-is_marked c = (sym (refused_true _ (sym c.is_marked.ensures ∙ c.if-is_marked.true)), refl)

pub returns : goal.returns
unfolding looked is_seen with_place
returns c =
    let bit = c.args.p % 32 in
    let all : bit < 32 = omega arith in
    (sym (refused_false _ (sym c.is_marked.ensures ∙ c.if-is_marked.false)), rw (shl_exact {a = 1} 1 bit 32 (omega arith) (omega arith), one-mul))
