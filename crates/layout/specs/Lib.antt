-- The run sheet's layout and its chain (document 01, "The run sheet"), in the document's order. Numbers has what the code hands on, Theorems what is
-- shown of the chain.
pub mod Layout
pub mod Chain
pub mod Outside
pub mod Numbers
pub mod Theorems
