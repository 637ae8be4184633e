-- What crate compare finds.
pub mod Compare
