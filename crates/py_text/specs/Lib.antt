pub mod Int
pub mod Escape
pub mod Repr
