-- The rehearsal of a recipe number (document 02, request 5), whose run crate number defines: Gathered has how a bit's outcomes are added to those below, Promise what
-- the calls promise, Theorems demand 3 of good stations that run singly, bit by bit; Loops is for private functions only.
pub mod Gathered
pub mod Promise
pub mod Theorems
pub mod Loops
