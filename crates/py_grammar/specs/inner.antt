-- What code and proofs say to each other: nothing public rests on it.
pub mod Aiming
pub mod Follow
pub mod Lines
pub mod Pieces
pub mod Reading
pub mod Tall
