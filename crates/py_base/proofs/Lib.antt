pub mod Lists
mod Numbering
mod NameLists
