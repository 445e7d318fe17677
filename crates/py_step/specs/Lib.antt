pub mod Client
pub mod inner
