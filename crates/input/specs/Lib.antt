-- An input that is read to its end.
pub mod Reading
