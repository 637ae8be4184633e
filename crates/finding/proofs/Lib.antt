-- Theorems has the proof of the statement of specs/Theorems.antt, by FindingLaws; and in a folder for each function is the proof that it meets its contract.
pub mod FindingLaws
pub mod Theorems
