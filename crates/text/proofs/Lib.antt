-- Theorems has the proof of each statement of specs/Theorems.antt. DecimalLaws are of a number in decimal, LaidLaws of bytes laid into a buffer.
pub mod DecimalLaws
pub mod LaidLaws
pub mod Theorems
