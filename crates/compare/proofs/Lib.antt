-- CompareLaws has the laws of what is compared; in a folder for each function is the proof that it meets its contract.
pub mod CompareLaws
