pub mod BenchSteps
mod BenchClasses
pub mod BenchPairs
