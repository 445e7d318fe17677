pub mod Space
pub mod Given
pub mod PlainState
pub mod PlainSense
pub mod Prog
pub mod Client
pub mod Machine
pub mod Cut
mod CutWorked
pub mod Turns
pub mod TurnLaws
pub mod LockState
pub mod RunState
pub mod Whys
pub mod Script
pub mod inner
