pub mod FindSteps
mod Halves
pub mod Holding
mod Pairing
pub mod SteadyRows
pub mod Whole
