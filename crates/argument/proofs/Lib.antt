-- ArgumentLaws has the laws of a number's bytes; in a folder for each function is the proof that it meets its contract.
pub mod ArgumentLaws
