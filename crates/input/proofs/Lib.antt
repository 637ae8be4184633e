-- ReadingLaws is of what an answer tells; and in a folder for each function that wants one is the proof that it meets its contract.
pub mod ReadingLaws
