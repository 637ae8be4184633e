-- What the program's private functions ask for. What it prints crate seeded defines.
pub mod Loops
