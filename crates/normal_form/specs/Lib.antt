-- What is read of a written sheet, and the normal form of a sheet (document 02, request 1): Reading has the first, Normal the second. Theorems has every
-- statement.
pub mod Reading
pub mod Normal
pub mod Theorems
