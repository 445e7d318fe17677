-- What code and proofs say to each other: nothing public rests on it.
pub mod Peeked
pub mod Moves
pub mod Operators
pub mod Directly
pub mod FastPath
pub mod Builtins
