-- The theorem: the statement of specs/Theorems.antt, under its name, and the law that proves it. Assumes nothing.
use Rattle.writer.specs.Theorems.{RefusedBy14}
use Rattle.writer.proofs.ManyLaws as many

pub refused_by_14 : RefusedBy14
refused_by_14 = many.refused_by_14
