pub mod Codes
pub mod Words
pub mod Grammar
pub mod Statements
pub mod Refused
pub mod inner
