mod Digits
mod Spelling
pub mod Quoted
