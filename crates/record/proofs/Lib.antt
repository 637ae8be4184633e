-- PutLaws has what is put byte by byte.
pub mod PutLaws
