-- The generator's state (document 02, request 7): State has one step and any number of them, Theorems what is shown of the definitions.
pub mod State
pub mod Theorems
