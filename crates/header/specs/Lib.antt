-- The judgement of a header's numbers and of a length (document 01, "Refused causes"). Nothing is proved here; Theorems says what proofs/ proves.
pub mod Header
pub mod Theorems
