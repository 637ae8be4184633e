-- The line of stations (document 01, "Names"), in the document's order, and recipe numbers (document 02, request 5). Nothing is proved here; Theorems says what
-- proofs/ proves. Writing is for private functions only.
pub mod Count
pub mod Line
pub mod Width
pub mod Marks
pub mod Ballot
pub mod Theorems
pub mod Writing
