-- The two_threshold broadcast with extended validity: document 01, "The graded exchange", "The broadcast" and "One station", with document 02's requests 2,
-- 4 and 6, and source 001, Definition 6 and Protocols 1 and 2. Read in this order. Nothing is proved in specs/; Theorems says what proofs/ proves.
-- Stations are counted from 0: station i is the document's station i + 1; only the sender of a `Run` keeps the document's number. Rounds are numbered from 1.
pub mod Exchange
pub mod Broadcast
pub mod Garbled
pub mod Station
pub mod Bytes
pub mod Guarantees
pub mod Theorems
