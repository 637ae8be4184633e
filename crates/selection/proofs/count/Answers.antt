-- `count` meets its contract.
use native.Mathlib.Omega.{arith}
use native.Mathlib.Nat.{mul_assoc}
use Prim.Native.Nat.{◌*◌}
use mathlib.Core.Path.{sym, ◌∙◌}
use Rattle.line.specs.Line.{rounds}
use Rattle.line.specs.Width.{bits}
use Rattle.selection.proofs.PlaceLaws.{tables_rounds}
use Rattle.selection.proofs.CountingLaws.{counted_nobody, counted_empty, counted_large, counted_none, counted_is}
use Rattle.selection.proofs.count.Goals as goal
use Rattle.selection.proofs.count.Goals.{then-header-eq0-via-then-header-eq0, then-header-eq0-via-else-header-eq0+then-line-eq0, then-header-eq0-via-else-header-eq0+else-line-eq0+then-line-gt-STATIONS, then-header-eq0-via-else-header-eq0+else-line-eq0+else-line-gt-STATIONS+then-table-tables_len}

pub returns-then-header-eq0 : goal.returns-then-header-eq0
returns-then-header-eq0 c =
    let h = c.args.header in
    let table = c.args.table.now in
    elim c.then-header-eq0.branch [
      | then-header-eq0-via-then-header-eq0 w ↦ counted_nobody h table w.if-header-eq0.true
      | then-header-eq0-via-else-header-eq0+then-line-eq0 w ↦ counted_empty h table w.if-line-eq0.true
      | then-header-eq0-via-else-header-eq0+else-line-eq0+then-line-gt-STATIONS w ↦ counted_large h table w.if-line-gt-STATIONS.true
      | then-header-eq0-via-else-header-eq0+else-line-eq0+else-line-gt-STATIONS+then-table-tables_len w ↦
          counted_none h table w.if-line-gt-STATIONS.false (λ e. w.if-table-tables_len.true (e ∙ sym w.tables_len.ensures))
    ]

pub in_table-requires : goal.in_table-requires
in_table-requires c =
    let h = c.args.header in
    record {
      some = omega arith;
      few = c.if-line-gt-STATIONS.false;
      how_many = bits h.w * rounds h.line.t;
      whole = c.if-table-tables_len.false ∙ c.tables_len.ensures ∙ tables_rounds h.line.n h.line.t h.w ∙ mul_assoc (bits h.w * rounds h.line.t) h.line.n h.line.n;
    }

pub returns : goal.returns
returns c =
    let h = c.args.header in
    let whole = c.if-table-tables_len.false ∙ c.tables_len.ensures in
    counted_is h c.args.table.now c.if-line-gt-STATIONS.false _ whole (rw whole at c.in_table.ensures)
