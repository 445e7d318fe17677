pub mod Parses
pub mod inner
