-- What code and proofs say to each other: nothing public rests on it.
pub mod Halts
pub mod Hold
pub mod Outer
pub mod SegLaws
pub mod SegSense
