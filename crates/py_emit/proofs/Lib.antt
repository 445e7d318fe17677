pub mod Emits
pub mod Rests
pub mod StmtArms
mod Arms
mod Steps
mod RowSteps
mod TargetSteps
mod TaskWeights
