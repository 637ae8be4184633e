-- Theorems has the proofs of the statements of specs/Theorems.antt, each by a law of the files before it; and in a folder for each function the proof that it meets its contract.
pub mod CountLaws
pub mod LineLaws
pub mod MarksLaws
pub mod BallotLaws
pub mod WritingLaws
pub mod WidthLaws
pub mod Theorems
pub mod FromFnLaws
