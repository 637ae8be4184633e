-- The listing of a run sheet (document 01, "Runs worked through"), whose lines and text crate listing_lines has: Promise has what the call promises and Theorems
-- what is shown of the definitions; Loops is for private functions only.
pub mod Promise
pub mod Theorems
pub mod Loops
