-- What code and proofs say to each other: nothing public rests on it.
pub mod Compounds
pub mod Reads
pub mod Weights
