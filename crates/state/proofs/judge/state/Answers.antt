-- `judge::state` meets its contract.
use Rattle.state.specs.Judgement.{state_verdict}
use Rattle.state.proofs.judge.state.Goals as goal

pub returns : goal.returns
unfolding state_verdict
returns c = cc
