-- Theorems has the proofs of the statements of specs/Theorems.antt, each by a law of HeaderLaws; and in a folder for each function the proof that it meets its contract.
pub mod HeaderLaws
pub mod Theorems
