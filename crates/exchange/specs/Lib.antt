-- What the exchange had alone promises, in terms of the definitions of crate broadcast (document 01, "The graded exchange"). Rounds is for private functions
-- only.
pub mod Promise
pub mod Rounds
