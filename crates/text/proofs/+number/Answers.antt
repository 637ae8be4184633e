-- `number` meets its contract: one digit, or the digits before the last and the last.
use native.Mathlib.Omega.{arith}
use Rattle.text.proofs.DecimalLaws.{numeral_one, numeral_more}
use Rattle.text.proofs.LaidLaws.{puts_then}
use Rattle.text.proofs.+number.Goals as goal

pub returns-then-x-lt10 : goal.returns-then-x-lt10
returns-then-x-lt10 t c = rw (numeral_one c.args.x (omega arith)) at c.digit.ensures

pub returns : goal.returns
returns t c = rw (numeral_more c.args.x (omega arith)) at (puts_then c.number-b.ensures c.digit-2.ensures)
