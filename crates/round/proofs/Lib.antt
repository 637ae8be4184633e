-- RoundLaws has the laws of one round; in a folder for each function is the proof that it meets its contract.
pub mod RoundLaws
