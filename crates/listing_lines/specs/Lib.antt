-- The listing's lines (document 01, "Runs worked through"): Lines has them field by field, Text byte by byte. Output is what a
-- program writes of a sheet.
pub mod Lines
pub mod Text
pub mod Output
