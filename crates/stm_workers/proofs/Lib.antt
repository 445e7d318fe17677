mod Explained
mod Growing
mod Installed
mod Jobs
mod Joined
pub mod Sent
