-- `judge::opening` meets its contract.
use Rattle.std.proofs.Common.{rules}
use Rattle.header.specs.Header.{line_verdict, station_number, bit}
use Rattle.refusal.proofs.VerdictLaws.{judged}
use Rattle.state.specs.Judgement.{opening_verdict}
use mathlib.Core.Path.{refl}
use Rattle.state.proofs.SoundLaws.{joined}
use Rattle.state.proofs.judge.opening.Goals as goal

pub returns-in_err-numbers : goal.returns-in_err-numbers
unfolding opening_verdict
returns-in_err-numbers c =
    let g = c.args in
    judged (joined (line_verdict g.n g.t g.upper) (station_number g.n g.sender) (station_number g.n g.own) (bit g.value) c.numbers.ensures refl (search rules))

pub returns : goal.returns
unfolding opening_verdict
returns c =
    let g = c.args in
    judged (joined (line_verdict g.n g.t g.upper) (station_number g.n g.sender) (station_number g.n g.own) (bit g.value) c.numbers.ensures c.bit.ensures.answer_is (search rules))
