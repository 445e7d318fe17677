-- What code and proofs say to each other: nothing public rests on it.
pub mod Flags
pub mod Hands
pub mod Holding
pub mod Images
pub mod Looks
pub mod Placed
pub mod Space
pub mod Table
pub mod Tables
