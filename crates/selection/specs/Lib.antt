-- Which bytes of the run tables are written to a sheet, and in which order (document 02, requests 1 and 5): Places has the definitions, Counted and Leaps
-- what the calls promise, Theorems what is shown of the definitions; Loops is for private functions only.
pub mod Places
pub mod Counted
pub mod Leaps
pub mod Theorems
pub mod Loops
