pub mod Known
pub mod Ends
pub mod Laws
