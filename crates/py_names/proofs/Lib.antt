pub mod Said
pub mod Says
mod Added
mod Tables
mod Closures
pub mod ScopeLemmas
