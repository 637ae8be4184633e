-- LineLaws are of the lines, VerdictLaws of the verdict that they tell.
pub mod LineLaws
pub mod VerdictLaws
pub mod OutputLaws
