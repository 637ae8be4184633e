-- Theorems has the proof of each statement of specs/Theorems.antt; PigeonholeLaws and ChainLaws lead to it. LayoutLaws has where a record lies in the
-- sheet.
pub mod PigeonholeLaws
pub mod ChainLaws
pub mod Theorems
pub mod LayoutLaws
