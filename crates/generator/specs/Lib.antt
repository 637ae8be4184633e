-- The generated run tables (document 02, request 7): Tables has each of their bytes, Judgement what is refused, Promise what the calls promise, Theorems what is
-- shown of the definitions; Loops is for private functions only. The state and its steps crate xorshift has.
pub mod Tables
pub mod Judgement
pub mod Promise
pub mod Theorems
pub mod Loops
