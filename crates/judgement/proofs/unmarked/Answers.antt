use Rattle.judgement.proofs.unmarked.Goals as goal

pub returns : goal.returns
returns c = rw c.is_marked.ensures
