-- FoundLaws has the laws of what is found; in a folder for each function is the proof that it meets its contract.
pub mod FoundLaws
