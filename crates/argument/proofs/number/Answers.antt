-- `number` meets its contract.
use Rattle.std.proofs.Common.{◌≡◌, ◌≤◌, sym, ap, ◌∙◌, length, Some, arith, rules}
use Rattle.argument.proofs.ArgumentLaws.{digit_is, read_none, read_turn, digits_none, digits_turn, other_byte, no_byte, a_number}
use Rattle.argument.proofs.number.Goals as goal

pub loop-b-init : goal.loop-b-init
loop-b-init c = let l = c.args.bytes.now in (rw (read_none l), digits_none l)

pub returns-then-not-is_ascii_digit : goal.returns-then-not-is_ascii_digit
returns-then-not-is_ascii_digit c =
    sym (other_byte c.args.bytes.now c.loop-b.b-index c.loop-b-test.true (sym (digit_is _) ∙ sym c.is_ascii_digit.ensures.value ∙ c.if-not-is_ascii_digit.true))

pub loop-b-preserved : goal.loop-b-preserved
loop-b-preserved c =
    let l = c.args.bytes.now in (
      c.saturating_add-x.ensures ∙ rw c.saturating_mul.ensures (read_turn l c.loop-b.b-index c.loop-b.x c.loop-b.invariant.0),
      digits_turn l c.loop-b.b-index c.loop-b.invariant.1 (sym (digit_is _) ∙ sym c.is_ascii_digit.ensures.value ∙ c.if-not-is_ascii_digit.false),
    )

pub returns-then-is_empty : goal.returns-then-is_empty
returns-then-is_empty c = let h : length c.args.bytes.now ≡ 0 = search rules in sym (no_byte c.args.bytes.now h)

pub returns-else-is_empty : goal.returns-else-is_empty
returns-else-is_empty c =
    let l = c.args.bytes.now in
    let some : 1 ≤ length l = search rules in
    let e : c.loop-b.b-index ≡ length l = omega arith in
    sym (a_number l some (rw e at c.loop-b.invariant.1) ∙ ap Some (sym (rw e at c.loop-b.invariant.0)))
