pub mod Segments
pub mod Turns
