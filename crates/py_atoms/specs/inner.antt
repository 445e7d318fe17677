-- What code and proofs say to each other: nothing public rests on it.
pub mod Asking
pub mod Outcome
