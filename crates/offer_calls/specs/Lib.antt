-- Offer and acceptance for C (document 02, request 8). Words: on numbers. Lent: on a lent station. Theorems: what is shown of these beside taking a row.
pub mod Words
pub mod Lent
pub mod Theorems
