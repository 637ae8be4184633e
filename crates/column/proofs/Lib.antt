-- ColumnLaws has the laws of counts; in a folder for each function is the proof that it meets its contract.
pub mod ColumnLaws
