-- What code and proofs say to each other: nothing public rests on it.
pub mod Heads
pub mod Partly
pub mod State
pub mod TaskWeights
pub mod Tasks
