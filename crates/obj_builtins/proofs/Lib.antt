mod Digits
mod Loops
mod Numbered
mod FormLooks
mod LengthLooks
mod KindLooks
mod Told
mod EachFunction
pub mod Holding
pub mod SteadyRows
mod RangeAnswers
mod SumAnswers
mod ReadAnswers
mod BestAnswers
mod ClassAnswers
mod InputSteps
mod InputDone
mod InputHolds
pub mod CallHolds
pub mod CallQuiet
