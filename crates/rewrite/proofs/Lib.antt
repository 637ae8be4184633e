-- OutputLaws are of what is written to the output.
pub mod OutputLaws
