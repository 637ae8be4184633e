-- The parts of a broadcast as the code tells them, and the count in a byte. What the steps are is defined in crate broadcast.
pub mod Part
pub mod Noted
