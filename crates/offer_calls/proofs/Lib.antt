-- WordLaws: what a call by value promises, said of its answer as a number. StepLaws: said of a lent station. OfferLaws: offer and acceptance on numbers beside taking a row.
-- Theorems has the proof of the statement of specs/Theorems.antt. In a folder for each function is the proof that it meets its contract.
pub mod WordLaws
pub mod StepLaws
pub mod OfferLaws
pub mod Theorems
