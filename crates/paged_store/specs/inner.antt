-- What code and proofs say to each other: nothing public rests on it.
pub mod Formed
pub mod Sound
pub mod Counted
pub mod Keyed
pub mod Moves
pub mod Sight
pub mod Indexed
pub mod Fine
pub mod Drafts
pub mod Ending
pub mod Claiming
pub mod Writing
pub mod Written
pub mod Indexing
pub mod Taking
pub mod Growing
pub mod Making
