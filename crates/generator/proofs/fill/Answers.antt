-- `fill` meets its contract: nothing is done where there are no whole rows.
use Rattle.std.proofs.Common.{arith, inl, inr}
use Rattle.generator.proofs.TableLaws.{rows_none}
use Rattle.generator.proofs.PromiseLaws.{fills_none, fills_all}
use Rattle.generator.proofs.fill.Goals as goal
use Rattle.generator.proofs.fill.Goals.{then-n-eq0-via-then-n-eq0, then-n-eq0-via-else-n-eq0+then-table-n-ne0}

pub returns-then-n-eq0 : goal.returns-then-n-eq0
returns-then-n-eq0 c =
    elim c.then-n-eq0.branch [
      | then-n-eq0-via-then-n-eq0 w ↦ fills_none _ _ _ _ (rows_none _ _ (inl w.if-n-eq0.true))
      | then-n-eq0-via-else-n-eq0+then-table-n-ne0 w ↦ fills_none _ _ _ _ (rows_none _ _ (inr (w.if-n-eq0.false, w.if-table-n-ne0.true)))
    ]

pub fill-requires : goal.fill-requires
fill-requires c = record { some = omega arith; whole = omega arith }

pub returns : goal.returns
returns c = fills_all _ _ _ _ _ _ (record { some = omega arith; whole = omega arith }) c.fill.ensures
