-- Recipe numbers (document 02, request 5): a number's run as the runs of its bits, which crate broadcast defines. Read in this order. Nothing is proved in
-- specs/; Theorems says what proofs/ proves.
pub mod Digits
pub mod Numbers
pub mod Theorems
