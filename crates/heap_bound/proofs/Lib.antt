mod Summing
mod Larger
mod Finish
mod Reaching
mod Cutting
mod Lifting
mod Bounding
mod Explaining
mod Unmoved
mod Calling
mod Within
mod EndCalls
pub mod GrowthRows
