-- Theorems has the proof of each statement of specs/Theorems.antt. FateLaws, PlaceLaws, TableLaws and OutsideLaws lead to it: of a chain's fate, a
-- record's place, the table of an accepted sheet, and records that the chain does not reach. BitLaws, SeenLaws, WalkLaws and PromiseLaws are for the
-- functions: of the places seen as bits and as records, the walk, and what the reader promises.
pub mod FateLaws
pub mod PlaceLaws
pub mod TableLaws
pub mod OutsideLaws
pub mod Theorems
pub mod BitLaws
pub mod SeenLaws
pub mod WalkLaws
pub mod PromiseLaws
