mod Lists
pub mod Powers
mod Loops
pub mod Faults
pub mod Nested
pub mod NumbersHold
pub mod OperandsHold
pub mod Holding
pub mod SteadyRows
mod AnswerLaws
