mod Coming
mod Edits
mod Laying
pub mod Lift
mod Loaned
pub mod Looks
mod Naming
mod Pairs
mod Replaying
mod Running
mod Searches
mod Turns
mod Walk
