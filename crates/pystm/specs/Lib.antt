pub mod Devices
pub mod Process
