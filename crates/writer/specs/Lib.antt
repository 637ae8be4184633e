-- The sheet that is written from a header and run tables (document 02, requests 1 and 5): Sheet has each of its bytes, Judgement what is refused. Writing
-- has what the calls promise, Theorems what is shown of the definitions; Loops is for private functions only. Which bytes are written crate selection has.
pub mod Sheet
pub mod Judgement
pub mod Writing
pub mod Theorems
pub mod Loops
