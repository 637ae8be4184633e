-- Who keeps the rules, by a log and outcomes (document 02, request 3, "Logs from other makers"). Rules has the definition in the ticket's words, and the same as a test.
-- Nothing is proved in specs/; Theorems says what proofs/ proves. Stations are counted from 0: station i is the document's station i + 1; only the sender keeps
-- the document's number. Rounds are numbered from 1.
pub mod Rules
pub mod Theorems
