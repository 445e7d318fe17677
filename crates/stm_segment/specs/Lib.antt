pub mod CoreState
pub mod Asking
pub mod Conflict
pub mod Devices
pub mod Books
pub mod InUse
pub mod inner
