-- What the exported calls promise: the promise of the call that each passes on, and its refusal's number.
pub mod Numbers
