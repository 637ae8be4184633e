-- WordLaws: what a call by value promises, said of its answer as a number.
pub mod WordLaws
