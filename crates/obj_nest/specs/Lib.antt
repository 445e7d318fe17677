pub mod Levels
pub mod Equal
pub mod Ordering
pub mod Truth
pub mod Text
pub mod Laws
pub mod Worked
