-- RowLaws are of one row and of a loop over them, TableLaws of the tables, PromiseLaws of what the calls promise; Theorems has the proof of each statement of specs/Theorems.antt.
pub mod RowLaws
pub mod TableLaws
pub mod PromiseLaws
pub mod Theorems
