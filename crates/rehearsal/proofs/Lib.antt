-- Theorems has the proof of each statement of specs/Theorems.antt, by BonderLaws. RunLaws says that the rounds make the run, CallLaws that single stations'
-- calls do;
-- and in a folder for each function is the proof that it meets its contract.
pub mod RunLaws
pub mod CallLaws
pub mod PromiseLaws
pub mod BonderLaws
pub mod Theorems
