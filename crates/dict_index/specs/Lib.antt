pub mod Packed
pub mod Keys
pub mod Slots
pub mod Index
pub mod Seeking
pub mod Leaving
pub mod Laws
