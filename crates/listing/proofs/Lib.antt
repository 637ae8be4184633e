-- Theorems has the proof of each statement of specs/Theorems.antt. LengthLaws are of the text's length, BitLaws of the bits one after another, ListingLaws of the
-- promise, WholeLaws of a listing with buffers long enough for every sheet.
pub mod LengthLaws
pub mod BitLaws
pub mod ListingLaws
pub mod WholeLaws
pub mod Theorems
