-- XorLaws are of exclusive-or and shifts, StateLaws of the state; Theorems has the proof of each statement of specs/Theorems.antt.
pub mod XorLaws
pub mod StateLaws
pub mod Theorems
