pub mod Growth
pub mod Moments
pub mod Using
pub mod Laws
pub mod Worked
