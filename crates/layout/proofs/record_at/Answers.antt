-- `record_at` meets its contract: a record lies in the sheet.
use borrow.Author.Rules.{rules}
use native.Mathlib.Omega.{arith}
use Rattle.layout.specs.Layout.{records, start}
use Rattle.layout.specs.Numbers.{record_at, no_numbers}
use Rattle.layout.proofs.ChainLaws.{true_record}
use Rattle.layout.proofs.LayoutLaws.{record_inside}
use Rattle.layout.proofs.record_at.Goals as goal

pub overflow_sub-i : goal.overflow_sub-i
overflow_sub-i c =
    let s = c.args.sheet.now in
    let i = c.args.i in
    let r = true_record s i (cc) in
    omega (arith, r.low)

pub overflow_mul-i : goal.overflow_mul-i
unfolding records
overflow_mul-i c =
    let s = c.args.sheet.now in
    let i = c.args.i in
    let r = true_record s i (cc) in
    omega (arith, r.high)

pub overflow_add-i : goal.overflow_add-i
unfolding records
overflow_add-i c =
    let s = c.args.sheet.now in
    let i = c.args.i in
    let r = true_record s i (cc) in
    omega (arith, r.high)

pub numbers-requires : goal.numbers-requires
unfolding start
numbers-requires c =
    let s = c.args.sheet.now in
    let i = c.args.i in
    let r = true_record s i (cc) in
    omega (arith, record_inside s i r)

pub returns-then-is_record : goal.returns-then-is_record
unfolding record_at start
returns-then-is_record c = rw (← c.is_record.ensures, c.if-is_record.true) c.numbers.ensures

pub returns-else-is_record : goal.returns-else-is_record
unfolding record_at no_numbers
returns-else-is_record c = rw (← c.is_record.ensures, c.if-is_record.false) (search rules)
