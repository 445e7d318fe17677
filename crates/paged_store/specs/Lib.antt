pub mod Words
pub mod State
pub mod Paged
pub mod Stores
pub mod inner
