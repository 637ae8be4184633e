-- BitLaws are of the bits, one after another, PromiseLaws of what the call promises, ListingLaws of the listings' length, BackLaws of the tables written and read
-- back; Theorems has the proof of each statement of specs/Theorems.antt.
pub mod BitLaws
pub mod PromiseLaws
pub mod ListingLaws
pub mod BackLaws
pub mod Theorems
