-- OutcomeLaws says which bytes are written; in a folder for each function is the proof that it meets its contract.
pub mod OutcomeLaws
