-- What code and proofs say to each other: nothing public rests on it.
pub mod Bodies
pub mod Deletions
pub mod Plans
pub mod Rounds
