-- SeedLaws are of one seed's run and of one seed more, OutputLaws of what is printed by the reader's answer.
pub mod SeedLaws
pub mod OutputLaws
