-- What the program rewrite writes.
pub mod Output
