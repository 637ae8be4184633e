-- What crate post writes.
pub mod Posted
