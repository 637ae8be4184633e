-- The theorem: the statement of specs/Theorems.antt, under its name, and the law that proves it. Assumes nothing.
use Rattle.finding.specs.Theorems.{FindingShort}
use Rattle.finding.proofs.FindingLaws as laws

pub finding_short : FindingShort
finding_short = laws.finding_short
