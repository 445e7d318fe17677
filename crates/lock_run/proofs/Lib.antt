mod Naming
pub mod Following
pub mod Stepping
mod IsPlainView
mod Turning
mod Ready
pub mod StepsMirror
pub mod Along
mod Accept
mod ScriptRecords
mod ScriptSteps
