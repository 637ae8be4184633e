-- The theorems: each statement of specs/Theorems.antt, under its name, and the law that proves it. Assumes nothing.
use Rattle.layout.specs.Theorems.{HasFate, OnlyOne, Walk}
use Rattle.layout.proofs.ChainLaws as chain

pub has_fate : HasFate
has_fate = chain.fate

pub only_one : OnlyOne
only_one = chain.only_one

pub walk : Walk
walk = chain.walk_tells
