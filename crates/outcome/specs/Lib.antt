-- What crate outcome writes.
pub mod Outcome
