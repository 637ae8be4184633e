-- Theorems has the proof of each statement of specs/Theorems.antt, to which RankLaws and PlaceLaws lead: a number by how many pass before it, and a place's
-- bit, round, sender and receiver. CountingLaws has what the code counts.
pub mod RankLaws
pub mod PlaceLaws
pub mod LeapLaws
pub mod CountingLaws
pub mod OrderLaws
pub mod Theorems
