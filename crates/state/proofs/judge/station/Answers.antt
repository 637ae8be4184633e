-- `judge::station` meets its contract.
use Rattle.std.proofs.Common.{rules}
use Rattle.header.specs.Header.{line_verdict, station_number}
use Rattle.refusal.proofs.VerdictLaws.{judged}
use Rattle.state.specs.Judgement.{station_verdict, state_verdict}
use mathlib.Core.Path.{refl}
use Rattle.state.proofs.SoundLaws.{joined}
use Rattle.state.proofs.judge.station.Goals as goal

pub returns-in_err-numbers : goal.returns-in_err-numbers
unfolding station_verdict
returns-in_err-numbers c =
    let s = c.args.s in
    judged (joined (line_verdict s.n s.t s.upper) (station_number s.n s.sender) (station_number s.n s.own) (state_verdict s) c.numbers.ensures refl (search rules))

pub returns : goal.returns
unfolding station_verdict
returns c =
    let s = c.args.s in
    judged (joined (line_verdict s.n s.t s.upper) (station_number s.n s.sender) (station_number s.n s.own) (state_verdict s) c.numbers.ensures c.state.ensures (search rules))
