-- `list_seed` meets its contract.
use Rattle.seeds.proofs.SeedLaws.{lines_seed, ready_again}
use Rattle.seeds.proofs.list_seed.Goals as goal

pub returns : goal.returns
returns c =
    let kept = c.rehearse.auto in
    (ready_again _ _ _ _ _ _ _ kept.table kept.log kept.outcomes c.requires.0, lines_seed _ _ c.requires.1 _ _ _ _ _ _ c.requires.0 c.rehearse.ensures _ _ _ _ c.of_run.ensures)
