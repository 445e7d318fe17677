pub mod Options
pub mod Demo
pub mod inner
