pub mod Collection
pub mod Refusal
pub mod Numbers
pub mod NameLists
