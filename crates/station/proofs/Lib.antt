-- Theorems has the proofs of the statements of specs/Theorems.antt, by CallLaws and SinglyLaws. TakeLaws and AnswerLaws are of a station's step and answers; and in a folder for
-- each function is the proof that it meets its contract.
pub mod TallyLaws
pub mod TakeLaws
pub mod AnswerLaws
pub mod CallLaws
pub mod SinglyLaws
pub mod Theorems
