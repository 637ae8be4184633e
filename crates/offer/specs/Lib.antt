-- A row looked at before it is taken (document 02, request 8). Offers: what an offer is, and what the two calls promise. Words: an offer as a number, for C. Theorems:
-- what is shown of both together.
pub mod Offers
pub mod Words
pub mod Theorems
