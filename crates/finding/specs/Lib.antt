-- What the checker found, as a line of text. Theorems says what proofs/ proves of it.
pub mod Finding
pub mod Theorems
