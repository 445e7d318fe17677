pub mod Innermost
pub mod inner
