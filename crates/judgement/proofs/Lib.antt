-- Theorems has the proof of each statement of specs/Theorems.antt, to which FormLaws leads. RangeLaws has what cause 11 lets through, and that the numbers
-- handed on are judged as the sheet's record is. OutsideLaws has the judgement of sheets that differ outside their chains.
pub mod FormLaws
pub mod Theorems
pub mod RangeLaws
pub mod OutsideLaws
