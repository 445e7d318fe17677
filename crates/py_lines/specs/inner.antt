-- What code and proofs say to each other: nothing public rests on it.
pub mod SimplePieces
pub mod Stops
