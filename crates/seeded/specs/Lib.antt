-- The runs that seeds generate (document 02, request 7), whose tables crate generator has: Promise has what the call promises, Listings the listings that the program
-- seeds prints, Theorems what is shown of the definitions; Loops is for private functions only.
pub mod Promise
pub mod Listings
pub mod Theorems
pub mod Loops
