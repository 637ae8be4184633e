-- Theorems has the proofs of the statements of specs/Theorems.antt. GatherLaws are of the outcomes gathered, BitLaws of the promise of one bit, RunLaws of the bits one
-- after another, PromiseLaws of the promise of a number, BonderLaws of real bonders.
pub mod GatherLaws
pub mod BitLaws
pub mod RunLaws
pub mod PromiseLaws
pub mod BonderLaws
pub mod Theorems
