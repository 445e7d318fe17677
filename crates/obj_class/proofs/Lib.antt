mod Below
mod Nearest
pub mod RootsKept
mod ExceptionClasses
pub mod Parts
pub mod AttrLooks
mod OwnDict
pub mod AttrHolds
pub mod FaultHolds
mod Given
pub mod SteadyRows
pub mod ClassHolds
mod LeftSteps
pub mod TellingLooks
pub mod TellingCalm
mod Steadily
mod RootsSteps
pub mod RootsHold
mod TellingWords
