-- What code and proofs say to each other: nothing public rests on it.
pub mod PieceLaws
pub mod Edited
pub mod Walked
pub mod Ending
pub mod Stepwise
pub mod Lending
