-- OfferLaws is of offers and of the calls' answers, TogetherLaws of these beside each other and after cuts, WordLaws of an offer as a number, BallotLaws of its ballot and bytes;
-- Theorems has the proofs of the statements of specs/Theorems.antt. In a folder for each function is the proof that it meets its contract.
pub mod OfferLaws
pub mod TogetherLaws
pub mod WordLaws
pub mod BallotLaws
pub mod Theorems
