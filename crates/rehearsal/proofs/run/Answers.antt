-- `run` meets its contract: after the last round the log and the outcomes are the run's.
use mathlib.Core.Path.{◌∙◌}
use Rattle.rehearsal.proofs.RunLaws.{log_made, outcomes_made}
use Rattle.rehearsal.proofs.run.Goals as goal

pub returns : goal.returns
returns c =
    let p = c.all_rounds-done.ensures in
    record {
      log_is = log_made _ _ c.requires.0 _ _ p;
      outcomes_are = c.write.ensures ∙ outcomes_made _ _ c.requires.0 _ _ p _ c.requires.1;
    }
