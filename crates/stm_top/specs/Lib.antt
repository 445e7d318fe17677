pub mod Answer
pub mod Script
pub mod Serial
pub mod TopCall
pub mod inner
