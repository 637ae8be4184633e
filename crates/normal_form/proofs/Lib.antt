-- Theorems has the proof of each statement of specs/Theorems.antt; the others lead to it. Of a written sheet: its bytes, its chain, headers that are written
-- alike, the records and the table as they are read, and all of that together. Of an accepted sheet: its first twelve bytes, how many bytes of its table are
-- not silence, what is written of it, and that rewritten.
pub mod SheetLaws
pub mod ChainLaws
pub mod SameLaws
pub mod ReadLaws
pub mod BackLaws
pub mod FrontLaws
pub mod LoudLaws
pub mod NormalLaws
pub mod RewriteLaws
pub mod Theorems
