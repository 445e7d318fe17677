mod Turns
pub mod Kept
pub mod Quiet
mod Targets
pub mod ThreadsHold
mod Locking
mod Joining
