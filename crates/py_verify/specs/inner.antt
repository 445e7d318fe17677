-- What code and proofs say to each other: nothing public rests on it.
pub mod Flows
pub mod Tests
pub mod Whole
pub mod Work
