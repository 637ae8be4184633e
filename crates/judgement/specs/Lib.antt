-- Which cause a run sheet is refused by (document 01, "Refused causes"), in the document's order. Numbers has what the code judges of a record, Theorems
-- what is shown of a sheet's form.
pub mod Judgement
pub mod Numbers
pub mod Theorems
