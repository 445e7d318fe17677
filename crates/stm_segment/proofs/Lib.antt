mod Looking
pub mod Fits
pub mod Holding
pub mod Used
pub mod Peaks
pub mod Changing
pub mod Seeing
pub mod Hands
pub mod Sighting
