-- What code and proofs say to each other of pages; nothing public rests on it.
pub mod Spreading
pub mod Sound
pub mod Counted
