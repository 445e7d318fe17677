-- What code and proofs say to each other: nothing public rests on it.
pub mod Ending
pub mod Going
pub mod Pauses
pub mod Pausing
pub mod PutIn
pub mod Readers
pub mod Replayed
pub mod Rising
pub mod Settled
pub mod Whole
pub mod Trying
pub mod Lent
