-- `put::put_byte` meets its contract: silence is not written.
use Rattle.std.proofs.Common.{◌∙◌, arith}
use Rattle.writer.specs.Loops.{room}
use Rattle.writer.proofs.PutLaws.{next_there, spoken_none, spoken_one, put_none, put_there}
use Rattle.writer.proofs.put.put_byte.Goals as goal

pub returns-then-ballot-eq-SILENCE : goal.returns-then-ballot-eq-SILENCE
returns-then-ballot-eq-SILENCE c =
    let a = c.args in
    let e = c.if-ballot-eq-SILENCE.true in
    (omega (arith, spoken_none a.ballot e), put_none a.ballot a.sheet.now a.m a.turn a.from a.to e)

pub returns : goal.returns
returns c =
    let a = c.args in
    let e = c.if-ballot-eq-SILENCE.false in
    let one = spoken_one a.ballot e in
    let next = c.next_index-next.ensures ∙ next_there (room a.sheet.now) a.m _ c.requires.size (omega (arith, c.requires.left, one)) in
    let w = put_there a.ballot a.sheet.now a.m a.turn a.from a.to e (omega (arith, c.requires.size, c.requires.left, one)) in
    (omega (arith, one), rw next at c.put.ensures ∙ w)
