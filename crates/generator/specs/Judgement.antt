-- What generating is refused by (document 02, request 7): each cause a test of its own, in the order that the ticket gives.
use Rattle.std.specs.Prelude.{ℕ, List, eqb}
use Rattle.refusal.specs.Cause.{refused_if, ◌or_else◌}
use Rattle.refusal.specs.declared.cause.Cause.TheVariants.{Seed}
use Rattle.refusal.specs.Cause.{Verdict}
use Rattle.header.specs.Header.{exact_length}
use Rattle.layout.specs.Layout.{tables_wanted}
use Rattle.judgement.specs.Judgement.{header_length, verdict_to_6}

-- "Seed zero is refused by 16"
unfoldable pub seed_some : ℕ → Verdict
seed_some seed = refused_if (eqb seed 0) Seed

-- "after the header's causes and before 8": a header not of 12 bytes is 1, then 15 and 2 to 6, of twelve bytes as of a sheet without records; of the first index no
-- cause speaks
unfoldable pub generate_verdict : List ℕ → (seed table_size : ℕ) → Verdict
generate_verdict h seed table_size =
    header_length h
    or_else verdict_to_6 h
    or_else seed_some seed
    or_else exact_length (tables_wanted h) table_size
