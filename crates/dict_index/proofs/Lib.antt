pub mod Circle
pub mod Put
mod Count
pub mod Walking
pub mod Homes
pub mod Entering
pub mod Closing
pub mod Lowering
pub mod Frame
pub mod Right
mod Classes
pub mod Pairs
pub mod Gone
pub mod Kept
pub mod Seeking
