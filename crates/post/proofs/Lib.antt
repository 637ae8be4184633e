-- PostLaws says what stands where in a posted log; in a folder for each function is the proof that it meets its contract.
pub mod PostLaws
