-- What crate column counts.
pub mod Column
