-- `post_all` meets its contract. The loop's invariant: the ballots of the senders before i are in the log.
use native.Mathlib.Omega.{arith}
use mathlib.Core.Path.{◌≡◌, sym, ◌∙◌}
use native.Mathlib.Nat.{zero-mul}
use Rattle.line.proofs.LineLaws.{product_fits, row_within, rows_between}
use Rattle.line.proofs.WritingLaws.{over_none}
use Rattle.post.proofs.PostLaws.{bad_turn, run_turn}
use Rattle.post.proofs.post_all.Goals as goal

pub loop-i-init : goal.loop-i-init
loop-i-init c = (omega arith, rw (zero-mul c.args.n) (over_none _ _ _))

pub overflow_mul-at : goal.overflow_mul-at
overflow_mul-at c = product_fits {p = 32} {q = 32} (omega arith) (omega arith) tt

pub overflow_add-at : goal.overflow_add-at
overflow_add-at c =
    omega (arith, c.requires.1, row_within c.loop-i.i c.args.n c.args.n (omega arith))

pub post_table-requires : goal.post_table-requires
post_table-requires c =
    let w = row_within c.loop-i.i c.args.n c.args.n (omega arith) in
    (omega (arith, c.requires.1, c.loop-i.auto.log), omega (arith, c.requires.2))

pub loop-i-preserved-then-is_marked : goal.loop-i-preserved-then-is_marked
loop-i-preserved-then-is_marked c =
    let g = c.args in
    let e = c.post_table.ensures in
    (omega arith, bad_turn g.said.now g.table.now g.marks g.start g.n c.loop-i.i g.log.now c.loop-i.log _ (sym c.is_marked.ensures ∙ c.if-is_marked.true) c.loop-i.invariant.1 e)

pub overflow_sub-to : goal.overflow_sub-to
overflow_sub-to c = omega (arith, c.run_end-to.ensures.0)

pub overflow_mul-to : goal.overflow_mul-to
overflow_mul-to c = let r = c.run_end-to.ensures in product_fits {p = 32} {q = 32} (omega (arith, r.1)) (omega arith) tt

pub post_same-requires : goal.post_same-requires
post_same-requires c =
    let r = c.run_end-to in
    let w = rows_between c.loop-i.i r.result c.args.n c.args.n r.ensures.0 r.ensures.1 in
    omega (arith, c.requires.1, c.loop-i.auto.log)

pub loop-i-smaller : goal.loop-i-smaller
loop-i-smaller c = let r = c.run_end-to.ensures in omega (arith, r.0, r.1)

pub loop-i-preserved : goal.loop-i-preserved
loop-i-preserved c =
    let r = c.run_end-to in
    let g = c.args in
    let e = c.post_same.ensures in
    (r.ensures.1, run_turn g.said.now g.table.now g.marks g.start g.n c.loop-i.i r.result r.ensures.0 (sym c.is_marked.ensures ∙ c.if-is_marked.false) r.ensures.2 g.log.now c.loop-i.log _ c.loop-i.invariant.1 e)

pub returns : goal.returns
returns c =
    let e : c.loop-i.i ≡ c.args.n = omega arith in
    rw e at c.loop-i.invariant.1
