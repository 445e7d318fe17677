pub mod CoreJob
pub mod Ended
pub mod Errands
pub mod Growth
pub mod inner
