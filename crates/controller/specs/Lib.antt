-- The station's calls as numbers, for C (document 01, "One station": "The bonder's controller is written in C and hands over the row as a byte slice.").
pub mod Words
