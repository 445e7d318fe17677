-- What code and proofs say to each other: nothing public rests on it.
pub mod PlainLaws
pub mod ScriptLaws
pub mod ScriptSafe
pub mod Threads
