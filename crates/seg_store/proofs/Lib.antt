pub mod Sees
pub mod Slices
mod Wanting
mod Back
mod Flagging
mod Moving
pub mod OneLists
mod Goodness
mod HoldingLemmas
pub mod Parts
pub mod Stores
mod Knowing
mod Placing
pub mod WordSums
