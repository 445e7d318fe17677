pub mod Typed
pub mod Coded
pub mod Used
pub mod Stateds
pub mod ExprInduct
pub mod Homes
pub mod Lengths
pub mod RowsEqual
pub mod Leasts
mod Examples
mod WorkedRows
mod KeyNumbers
