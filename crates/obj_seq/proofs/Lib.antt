mod Places
mod Tail
mod GapLoop
mod CollectLoop
mod PartSteps
mod ReverseLoop
mod Forms
mod IterSteps
mod RangeItems
pub mod Leaving
mod IterFaults
pub mod Holding
mod HoldingIters
pub mod HoldingGather
pub mod SteadyRows
mod GatherSteps
mod Heads
