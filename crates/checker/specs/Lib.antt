-- The checker of logs from other makers (document 02, request 3). Promise is what the call promises; Theorems is of logs that our rehearsal wrote; Followed is for private
-- functions only. Who keeps the rules is defined in crate rules.
pub mod Promise
pub mod Theorems
pub mod Followed
