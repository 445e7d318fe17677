mod Settle
mod Given
mod Raised
mod LocalHolds
mod GlobalHolds
mod MethodNumbers
mod MemberHolds
mod Making
mod BuildHolds
mod FunctionHolds
mod BuiltinHolds
mod BindingHolds
mod ClassHolds
mod RaiseHolds
mod CallHolds
mod PrintHolds
mod StepHolds
mod StepSound
pub mod Outcomes
mod SetupHolds
mod FirstStep
pub mod SoundLaws
pub mod WorkingRows
pub mod QuietSteps
mod CalmInstrs
mod SteadyInstrs
pub mod SteadySteps
