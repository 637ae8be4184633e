-- What crate garbled finds. What is garbled is defined in crates line and broadcast.
pub mod Found
