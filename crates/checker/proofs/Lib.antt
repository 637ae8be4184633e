-- Theorems has the proof of the statement of specs/Theorems.antt. FollowLaws says that the stations are followed as the rules have it, MarkLaws that the marks are the set,
-- AnswerLaws that the answer is as promised; and in a folder for each function is the proof that it meets its contract.
pub mod FollowLaws
pub mod MarkLaws
pub mod AnswerLaws
pub mod CallLaws
pub mod Theorems
