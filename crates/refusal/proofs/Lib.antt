-- VerdictLaws has the laws of verdicts; in a folder for each function is the proof that it meets its contract.
pub mod VerdictLaws
