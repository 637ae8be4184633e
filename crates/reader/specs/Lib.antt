-- What reading a run sheet gives (document 01, "The run sheet"): Reading has what the call promises, Theorems what is shown of the definitions; Loops is
-- for private functions only.
pub mod Reading
pub mod Theorems
pub mod Loops
