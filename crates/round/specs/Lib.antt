-- What crate round promises.
pub mod Round
