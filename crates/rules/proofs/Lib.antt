-- Theorems has the proof of each statement of specs/Theorems.antt. The others lead to it: OutcomeLaws is of an outcome's bytes, KeepsLaws and ValueLaws of one
-- station, RunLaws of the set and of the log as a run.
pub mod OutcomeLaws
pub mod KeepsLaws
pub mod ValueLaws
pub mod RunLaws
pub mod Theorems
