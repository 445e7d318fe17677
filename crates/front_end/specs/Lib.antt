pub mod TextCode
